use Rattle.std.proofs.Common.{◌≡◌}
use Rattle.guards.specs.Machine.{start}
use Rattle.guards.specs.Moment.{state_with}
use Rattle.arrivals.proofs.fresh.clear.Given as goal

-- the rows up to here are 0
abbrev pub invariant-loop-row : goal.invariant-loop-row
invariant-loop-row g l = record {
  state : g.S.StateView.state l.state ≡ state_with l.row start (g.S.StateView.state l.fn.state);
  same_place : g.S.ArrivalState.names l.state ≡ g.S.ArrivalState.names l.fn.state;
}
