use Rattle.rack.specs.CallLaws.{fresh_alone}
use Rattle.rack.proofs.rack_fresh.Goals as goal

pub returns : goal.returns
returns c = fresh_alone _ _ _ _ c.make.ensures
