use Rattle.rack.specs.LayoutsLaws.{taken_kept, refused_kept}
use Rattle.rack.proofs.states.put_called.Goals as goal

pub returns-in-Ok : goal.returns-in-Ok
returns-in-Ok c = taken_kept _ _ _ _ c.in-Ok.is c.put_state.ensures

pub returns-in-Err : goal.returns-in-Err
returns-in-Err c = refused_kept _ _ _ c.in-Err.is c.into.ensures
