use Rattle.busy.specs.Climb.{Settled}
use Rattle.busy.proofs.ends.Ends.settle.Given as goal

abbrev pub invariant-loop-i : goal.invariant-loop-i
invariant-loop-i l =
    Settled l.i l.t l.work l.level.period l.level.cost l.initial.later l.initial.self.begin l.initial.self.best l.later l.self.begin l.self.best l.next
