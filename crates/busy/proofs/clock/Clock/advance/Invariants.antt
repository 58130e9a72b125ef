use Rattle.busy.specs.ClimbLaws.{Advancing}
use Rattle.busy.proofs.clock.Clock.advance.Given as goal

abbrev pub invariant-loop-i : goal.invariant-loop-i
invariant-loop-i l = Advancing l.level.count l.t l.level.period l.level.cost l.initial.self.due l.initial.self.later l.i l.self.due l.self.later l.fresh
