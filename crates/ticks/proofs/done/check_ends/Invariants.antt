use Rattle.std.proofs.Common.{◌≡◌, false, ℕ, suc, ◌<◌}
use Rattle.table.specs.Table.{at}
use Rattle.ticks.specs.Done.{up_here}
use Rattle.ticks.specs.Numbers.{numbers}
use Rattle.ticks.proofs.done.check_ends.Given as goal

-- no row that runs so far is up
abbrev pub invariant-loop-i : goal.invariant-loop-i
invariant-loop-i g l =
    (k : ℕ) → k < l.i
    → up_here (g.S.StateView.state l.state).used (g.T.TableView.table l.table).time (at l.done k) (at (numbers l.running) (suc k)) ≡ false
