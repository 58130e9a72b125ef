use Rattle.std.proofs.Common.{◌∙◌, ap}
use Rattle.words.specs.Words.{gathered}
use Rattle.columns.specs.declared.columns.Columns.{Columns}
use Rattle.rack.specs.LayoutsLaws.{blank_table, table_read, rows_opened, table_opened}
use Rattle.rack.proofs.tables.table_in.Goals as goal

pub returns : goal.returns
returns c =
    let l = c.args.list.now in
    let b = c.requires in
    let n = c.min-chains.result in
    let r = table_read l blank_table _ n _ c.get-table-2.ensures c.min-chains.ensures
    (c.get_field.ensures ∙ ap (λ (k : Columns). gathered l 2 3 n k.period) b)
    (c.get_field-2.ensures ∙ ap (λ (k : Columns). gathered l 3 3 n k.deadline) b)
    (c.get_field-3.ensures ∙ ap (λ (k : Columns). gathered l 4 3 n k.steps) b)
    c.rows_with_room-rows.ensures
    (c.get_field-4.ensures ∙ ap (λ (k : Columns). gathered l 98 3 c.rows_with_room-rows.result k.processor) b)
    (c.get_field-5.ensures ∙ ap (λ (k : Columns). gathered l 99 3 c.rows_with_room-rows.result k.priority) b)
    (c.get_field-6.ensures ∙ ap (λ (k : Columns). gathered l 100 3 c.rows_with_room-rows.result k.time) b) in (
      table_opened r c.get-table.ensures c.get-table-2.ensures,
      rows_opened r,
    )
