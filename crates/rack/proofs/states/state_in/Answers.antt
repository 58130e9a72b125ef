use Rattle.std.proofs.Common.{◌∙◌, ap}
use Rattle.words.specs.Words.{gathered}
use Rattle.guards.specs.declared.state.State.{State}
use Rattle.rack.specs.LayoutsLaws.{state_read}
use Rattle.rack.proofs.states.state_in.Goals as goal

pub returns : goal.returns
returns c =
    let l = c.args.list.now in
    let n = c.args.rows in
    let b = c.requires in
    state_read (record {
      clock = c.get-state.ensures;
      released = c.get_field.ensures ∙ ap (λ (σ : State). gathered l 1 4 n σ.released) b;
      completed = c.get_field-2.ensures ∙ ap (λ (σ : State). gathered l 2 4 n σ.completed) b;
      used = c.get_field-3.ensures ∙ ap (λ (σ : State). gathered l 3 4 n σ.used) b;
      guard = c.get_field-4.ensures ∙ ap (λ (σ : State). gathered l 4 4 n σ.guard) b;
    })
