use Rattle.std.proofs.Common.{◌∙◌}
use Rattle.rack.specs.TableLaws.{table_put}
use Rattle.rack.proofs.tables.put_table.Goals as goal

pub shape_of-list : goal.shape_of-list
shape_of-list c = c.put_field-6.auto.list ∙ c.put_field-5.auto.list ∙ c.put_field-4.auto.list ∙ c.put_field-3.auto.list ∙ c.put_field-2.auto.list ∙ c.put_field.auto.list ∙ c.put-2.auto.list ∙ c.put.auto.list

pub returns : goal.returns
returns c = table_put _ _ _ c.requires.1 c.rows_with_room-rows.ensures c.put.ensures c.put-2.ensures c.put_field.ensures c.put_field-2.ensures c.put_field-3.ensures c.put_field-4.ensures c.put_field-5.ensures c.put_field-6.ensures
