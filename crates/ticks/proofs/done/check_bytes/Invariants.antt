use Rattle.std.proofs.Common.{◌≡◌, false, ℕ, suc, ◌<◌}
use Rattle.table.specs.Table.{at}
use Rattle.ticks.specs.Done.{wrong_here}
use Rattle.ticks.specs.Numbers.{numbers}
use Rattle.ticks.proofs.done.check_bytes.Given as goal

-- no processor so far is wrong
abbrev pub invariant-loop-i : goal.invariant-loop-i
invariant-loop-i l = (k : ℕ) → k < l.i → wrong_here (at l.done k) (at (numbers l.running) (suc k)) ≡ false
