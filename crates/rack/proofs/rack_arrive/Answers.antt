use Rattle.rack.specs.CallLaws.{arrive_alone}
use Rattle.rack.proofs.rack_arrive.Goals as goal

pub returns : goal.returns
returns c = arrive_alone _ _ _ _ _ c.make.ensures
