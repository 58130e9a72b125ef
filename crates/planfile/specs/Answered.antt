-- What a reading leaves: the table of its answer.
use Rattle.table.specs.Table.{Table, table_of}
use Rattle.planfile.specs.declared.read.Counts.{Counts}
use Rattle.planfile.specs.Reading.{Lists}

-- The table of these counts in these lists.
abbrev pub table_in : Counts → Lists → Table
table_in c l =
    table_of c.processors c.tasks l.period l.deadline l.steps l.processor l.priority l.time
