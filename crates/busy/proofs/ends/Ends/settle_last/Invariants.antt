use Rattle.std.proofs.Common.{max, ◌-◌, ◌≡◌}
use Rattle.facts.specs.Filled.{filled}
use Rattle.table.specs.Table.{at}
use Rattle.busy.proofs.ends.Ends.settle_last.Given as goal

abbrev pub invariant-loop-i : goal.invariant-loop-i
invariant-loop-i l =
    (l.self.begin ≡ l.initial.self.begin) × (l.self.best ≡ filled (λ j. max (at l.initial.self.best j) (l.span - at l.initial.self.begin j)) l.i l.initial.self.best)
