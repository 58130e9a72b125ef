-- How long the lists of a state are.
use Rattle.std.specs.Prelude.{◌≡◌, length}
use Rattle.guards.specs.declared.state.State.{State}

-- Each list of the state has 128 entries.
pub record Sizes (σ : State) : Type 0 where
  pub released : length σ.released ≡ 128
  pub completed : length σ.completed ≡ 128
  pub used : length σ.used ≡ 128
  pub guard : length σ.guard ≡ 128
