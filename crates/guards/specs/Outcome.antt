-- What a call comes to.
use Rattle.std.specs.Prelude.{ℕ, Result}
use Rattle.table.specs.declared.refusal.Refusal.{Refusal}
use Rattle.guards.specs.declared.state.State.{State}

-- The answer of a call and the state after it.
pub record Outcome : Type 0 where
  pub answer : Result ℕ Refusal
  pub state : State

-- The answer of a call and the clock after it.
pub record Called : Type 0 where
  pub answer : Result ℕ Refusal
  pub clock : ℕ
