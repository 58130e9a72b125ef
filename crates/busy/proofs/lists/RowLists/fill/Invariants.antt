use Rattle.std.proofs.Common.{◌≡◌}
use Rattle.table.specs.Table.{at}
use Rattle.facts.specs.Filled.{filled}
use Rattle.busy.specs.Held.{names_in}
use Rattle.busy.proofs.lists.RowLists.fill.Given as goal

abbrev pub invariant-loop-i : goal.invariant-loop-i
invariant-loop-i l =
    (names_in l.self ≡ names_in l.initial.self) × (l.self.busy.now ≡ filled (at l.numbers.busy) l.i l.initial.self.busy.now)
    × (l.self.instances.now ≡ filled (at l.numbers.instances) l.i l.initial.self.instances.now)
    × (l.self.bounds.now ≡ filled (at l.numbers.bounds) l.i l.initial.self.bounds.now)
