-- The state that a clock and four lists hold, lent to be read, to an arrival, or to any call.
use Rattle.guards.specs.declared.state.State.{State}
use Rattle.guards.specs.declared.lists.StateSlices.{StateSlices}
use Rattle.guards.specs.declared.lists.ArrivalLists.{ArrivalLists}
use Rattle.guards.specs.declared.lists.StateLists.{StateLists}
use Rattle.guards.specs.Lent.{state_of}

abbrev pub state_in_slices : StateSlices → State
state_in_slices s = state_of s.clock s.released.now s.completed.now s.used.now s.guard.now

abbrev pub state_in_arrival : ArrivalLists → State
state_in_arrival s = state_of s.clock s.released.now s.completed.now s.used.now s.guard.now

abbrev pub state_in_lists : StateLists → State
state_in_lists s = state_of s.clock s.released.now s.completed.now s.used.now s.guard.now
