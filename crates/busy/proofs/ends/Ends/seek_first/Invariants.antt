use Rattle.std.proofs.Common.{◌≡◌}
use Rattle.facts.specs.Filled.{filled}
use Rattle.busy.proofs.ends.Ends.seek_first.Given as goal

abbrev pub invariant-loop-i : goal.invariant-loop-i
invariant-loop-i l =
    (l.self.begin ≡ filled (λ j. 0) l.i l.initial.self.begin) × (l.self.best ≡ filled (λ j. 0) l.i l.initial.self.best)
