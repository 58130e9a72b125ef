use Rattle.rack.proofs.rack_tick.Goals as goal

pub returns : goal.returns
unfolding Rattle.rack.specs.RackCalls.rack_tick
returns c = c.make.ensures
