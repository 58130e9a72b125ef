use Rattle.rack.specs.LayoutsLaws.{state_kept}
use Rattle.rack.proofs.states.put_state.Goals as goal

pub returns : goal.returns
returns c = state_kept _ _ _ c.put.ensures c.put_field.ensures c.put_field-2.ensures c.put_field-3.ensures c.put_field-4.ensures
