-- What owning a state tells of its lists: each has 128 entries.
use mathlib.Core.List.{List}
use mir.Val.{Val}
use denote.Laws.{Is}
use denote.Struct.Declared.{row}
use Rattle.guards.specs.declared.state.State.{State}
use Rattle.guards.specs.StateLaws.{Sizes}
use Rattle.guards.specs.contracts.state.State.{the_type}

pub sizes : (σ : State) (vs : List Val) → Is (row the_type) σ vs → Sizes σ
sizes σ vs g = record {
  released = g.1.1.1.0.1.0.1;
  completed = g.1.1.1.1.0.1.0.1;
  used = g.1.1.1.1.1.0.1.0.1;
  guard = g.1.1.1.1.1.1.0.1.0.1;
}
