use Rattle.std.proofs.Common.{◌≡◌, []}
use Rattle.facts.specs.Filled.{tab}
use Rattle.guards.specs.Moment.{moment_of}
use Rattle.guards.specs.Rows.{plan_from}
use Rattle.guards.specs.Running.{best, is_open}
use Rattle.ticks.specs.Numbers.{numbers}
use Rattle.ticks.proofs.running.running_rows.Given as goal

-- the best of the rows so far
abbrev pub invariant-loop-row : goal.invariant-loop-row
invariant-loop-row g l =
    let T = g.T.TableView.table l.table in
    numbers l.found ≡ tab (λ x. best (plan_from l.rows [] [] T.processor T.priority []) (is_open (moment_of (g.S.StateView.state l.state))) x l.row) 17
