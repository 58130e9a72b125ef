use Rattle.std.proofs.Common.{◌≤◌, ◌-◌}
use Rattle.busy.specs.Climb.{Climbing}
use Rattle.busy.proofs.ends.Ends.find.Given as goal

abbrev pub invariant-loop-t : goal.invariant-loop-t
invariant-loop-t l =
    (l.t ≤ l.span) × Climbing l.level.count l.level.tied l.t l.t l.work l.level.period l.level.cost l.clock.due l.clock.later l.self.begin l.self.best

abbrev pub decreases-loop-t : goal.decreases-loop-t
decreases-loop-t l =
    l.span - l.t
