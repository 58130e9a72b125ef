-- The table that a table's counts and records hold.
use Rattle.table.specs.Table.{Table}
use Rattle.records.specs.Records.{in_records}
use Rattle.records.specs.declared.held.TableRecords.{TableRecords}

abbrev pub table_in_records : TableRecords → Table
table_in_records t = in_records t.processors t.tasks t.chains.now t.rows.now
