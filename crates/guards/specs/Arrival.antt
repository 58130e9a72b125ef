-- An arrival at a row.
use Rattle.std.specs.Prelude.{ℕ, ◌+◌, ◌≤◌, ◌<◌, cond, List, ltb, length, set}
use Rattle.table.specs.Table.{at}
use Rattle.table.specs.Refusals.{last_clock}
use Rattle.table.specs.declared.refusal.Refusal.TheVariants.{TooSoon}
use Rattle.guards.specs.declared.state.State.{State}
use Rattle.guards.specs.Outcome.{Outcome}
use Rattle.guards.specs.Calls.{refused, taken}

-- An arrival's row has its place in the lists, and its numbers are small.
pub record Arriving (row period clock : ℕ) (released guard : List ℕ) : Type 0 where
  pub row_most : row < 128
  pub released_long : row < length released
  pub guard_long : row < length guard
  pub period_most : period ≤ 1000000
  pub clock_most : clock ≤ last_clock
  pub released_most : at released row ≤ clock + 1

-- 9, or else one instance more of the row, whose guard is the clock plus its period.
unfoldable pub arrived_at : ℕ → ℕ → State → Outcome
arrived_at row period σ =
    cond (ltb σ.clock (at σ.guard row))
    (refused (TooSoon (at σ.guard row)) σ)
    (taken (row + 1) (record {
      clock = σ.clock;
      released = set σ.released row (at σ.released row + 1);
      completed = σ.completed;
      used = σ.used;
      guard = set σ.guard row (σ.clock + period);
    }))
