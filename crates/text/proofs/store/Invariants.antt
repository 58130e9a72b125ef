-- `text::store` meets its contract: at the loop's head, appending the bytes that are left to the list as it is gives the whole outcome.
use Rattle.std.proofs.Common.{◌+◌, ◌≡◌, length, drop}
use Rattle.text.specs.Text.{appended}
use Rattle.text.proofs.store.Given as goal

abbrev pub invariant-loop-i : goal.invariant-loop-i
invariant-loop-i l =
    (length l.out ≡ length l.initial.out) × (appended l.bytes l.initial.out l.at ≡ appended (drop l.i l.bytes) l.out (l.at + l.i))
