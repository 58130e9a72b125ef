-- The table that lists hold.
use Rattle.table.specs.Table.{Table, table_of}
use Rattle.planned.specs.declared.lists.TableLists.{TableLists}

abbrev pub table_in_lists : TableLists → Table
table_in_lists l = table_of l.processors l.tasks l.period.now l.deadline.now l.steps.now l.processor.now l.priority.now l.time.now
