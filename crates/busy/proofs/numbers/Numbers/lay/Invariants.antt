use Rattle.busy.specs.Level.{Laid}
use Rattle.busy.proofs.numbers.Numbers.lay.Given as goal

abbrev pub invariant-loop-i : goal.invariant-loop-i
invariant-loop-i l =
    Laid l.i l.span l.level.index l.level.period l.best l.initial.self.busy l.initial.self.instances l.initial.self.bounds l.self.busy l.self.instances l.self.bounds
