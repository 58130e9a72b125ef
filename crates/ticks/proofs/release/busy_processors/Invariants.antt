use Rattle.std.proofs.Common.{◌≡◌}
use Rattle.facts.specs.Filled.{tab}
use Rattle.table.specs.Table.{at}
use Rattle.guards.specs.Moment.{moment_of}
use Rattle.guards.specs.Running.{is_open}
use Rattle.ticks.specs.BusyLaws.{busy_below}
use Rattle.ticks.proofs.release.busy_processors.Given as goal

-- the processors of the rows so far
abbrev pub invariant-loop-row : goal.invariant-loop-row
invariant-loop-row g l =
    l.busy ≡ tab (busy_below (at (g.T.TableView.table l.table).processor) (is_open (moment_of (g.S.StateView.state l.state))) l.row) 17
