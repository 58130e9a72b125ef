use Rattle.std.proofs.Common.{◌≡◌}
use Rattle.guards.specs.Lent.{Long}
use Rattle.guards.specs.Moment.{moment_of, state_with}
use Rattle.ticks.specs.Steps.{opened_where, first_in, idle_in}
use Rattle.ticks.proofs.release.open_guards.Given as goal

-- the rows so far have had step 4
abbrev pub invariant-loop-row : goal.invariant-loop-row
invariant-loop-row g l = let σ = g.S.StateView.state l.fn.state in record {
  state : g.S.StateView.state l.state ≡ state_with l.row (opened_where (first_in l.rows.firsts.now) (idle_in (g.T.TableView.table l.table).processor l.busy) (moment_of σ)) σ;
  long : Long l.rows.count (g.S.StateView.state l.state);
  same_place : g.S.ArrivalState.names l.state ≡ g.S.ArrivalState.names l.fn.state;
}
