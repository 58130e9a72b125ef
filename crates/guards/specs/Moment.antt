-- What a state says of the rows, as functions of the row number (document 01, "Guards").
use Rattle.std.specs.Prelude.{ℕ, get_or}
use Rattle.facts.specs.Filled.{filled}
use Rattle.guards.specs.declared.state.State.{State}

-- The clock, and for each row its instances released and completed, the ticks used by its open instance, and its guard.
pub record Moment : Type 0 where
  pub clock : ℕ
  pub released : ℕ → ℕ
  pub completed : ℕ → ℕ
  pub used : ℕ → ℕ
  pub guard : ℕ → ℕ

-- The state as it is.
unfoldable pub moment_of : State → Moment
moment_of σ = record {
  clock = σ.clock;
  released = λ r. get_or σ.released r 0;
  completed = λ r. get_or σ.completed r 0;
  used = λ r. get_or σ.used r 0;
  guard = λ r. get_or σ.guard r 0;
}

-- The state with its clock and first n rows as m says; entries past them are no part of a state and stay.
unfoldable pub state_with : ℕ → Moment → State → State
state_with n m σ = record {
  clock = m.clock;
  released = filled m.released n σ.released;
  completed = filled m.completed n σ.completed;
  used = filled m.used n σ.used;
  guard = filled m.guard n σ.guard;
}
