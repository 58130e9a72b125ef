use Rattle.std.proofs.Common.{◌≤◌, ◌+◌, ◌*◌, ◌≡◌}
use Rattle.facts.specs.Sums.{sum}
use Rattle.table.specs.Table.{at}
use Rattle.bounds.proofs.lists.BoundLists.chain_bound.Given as goal

abbrev pub invariant-loop-step : goal.invariant-loop-step
invariant-loop-step l =
    (l.all ≡ sum l.step (λ s. at l.self.bounds.now (l.first + s))) × (l.all ≤ l.step * 10000000)
