-- A list of calls is a run of the machine, and its ticks are counted by the clock.
use Prim.Native.Nat.{ℕ, ◌+◌}
use Rattle.std.specs.Prelude.{◌≡◌}
use Rattle.table.specs.Table.{Table}
use Rattle.table.specs.Plan.{plan_of}
use Rattle.guards.specs.declared.state.State.{State}
use Rattle.guards.specs.Moment.{moment_of}
use Rattle.promise.specs.Later.{Later}

-- What a call or a list of calls comes to: a later moment, and so many ticks more on the clock.
pub record Played (T : Table) (σ τ : State) (ticks : ℕ) : Type 0 where
  pub later : Later (plan_of T) (moment_of σ) (moment_of τ)
  pub clock : τ.clock ≡ σ.clock + ticks
