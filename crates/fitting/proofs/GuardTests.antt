-- A guard's distance from the clock.
use Rattle.std.specs.Prelude.{ℕ, ◌+◌, ◌-◌, ◌≤◌, ◌≡◌, leb}
use Rattle.std.proofs.Common.{arith, sym, ◌∙◌, le-leb}
use Rattle.std.proofs.Math.Decide.{dec_le}
use borrow.Author.Tests.{lt-leb}

pub guard_ahead : (guard clock period : ℕ) → leb (guard - clock) period ≡ leb guard (clock + period)
guard_ahead guard clock period = go (dec_le guard (clock + period))
  where
    go : Dec (guard ≤ clock + period) → leb (guard - clock) period ≡ leb guard (clock + period)
    go (yes h) = le-leb (guard - clock) period (omega arith) ∙ sym (le-leb guard (clock + period) h)
    go (no h) = lt-leb (guard - clock) period (omega arith) ∙ sym (lt-leb guard (clock + period) (omega arith))
