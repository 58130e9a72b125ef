use Rattle.std.proofs.Common.{◌≤◌, ◌-◌, []}
use Rattle.busy.specs.Climb.{Climbing}
use Rattle.busy.specs.Level.{Partly, plan_seen}
use Rattle.busy.proofs.numbers.Numbers.solve_all.Given as goal

abbrev pub invariant-loop-row : goal.invariant-loop-row
invariant-loop-row g l =
    Partly (plan_seen l.rows.count l.rows.periods.now (g.T.TableView.table l.rows.table.now)) l.self.busy l.self.instances l.self.bounds l.row

abbrev pub invariant-loop-work : goal.invariant-loop-work
invariant-loop-work g l =
    (l.t ≤ 10000000) × Climbing l.level.count 0 l.t l.t l.work l.level.period l.level.cost l.clock.due l.clock.later [] []

abbrev pub decreases-loop-work : goal.decreases-loop-work
decreases-loop-work g l =
    10000001 - l.t
