use Rattle.std.proofs.Common.{◌≡◌, ◌≤◌, ◌*◌}
use Rattle.facts.specs.Sums.{sum}
use Rattle.facts.specs.Filled.{filled}
use Rattle.table.specs.Table.{at}
use Rattle.busy.proofs.clock.Clock.start.Given as goal

abbrev pub invariant-loop-i : goal.invariant-loop-i
invariant-loop-i l =
    (l.self.due ≡ filled (at l.level.period) l.i l.initial.self.due) × (l.self.later ≡ filled (λ j. 0) l.i l.initial.self.later)
    × (l.work ≡ sum l.i (at l.level.cost)) × (l.work ≤ l.i * 1000000)
