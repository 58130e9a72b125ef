-- The rows that the calls' lists hold.
use Rattle.guards.specs.Rows.{Rows}
use Rattle.guards.specs.declared.rows.PlanRows.{PlanRows}

abbrev pub rows_of : PlanRows → Rows
rows_of rows = record { count = rows.count; period = rows.periods.now; first = rows.firsts.now }
