use Rattle.std.proofs.Common.{◌≡◌}
use Rattle.guards.specs.Lent.{Long}
use Rattle.guards.specs.Moment.{moment_of, state_with}
use Rattle.ticks.specs.Numbers.{numbers}
use Rattle.ticks.specs.Steps.{ran, runs_in, ends_in}
use Rattle.ticks.proofs.work.work.Given as goal

-- the rows so far have had their steps 1 to 3
abbrev pub invariant-loop-row : goal.invariant-loop-row
invariant-loop-row g l = let σ = g.S.StateView.state l.fn.state in record {
  state : g.S.StateView.state l.state ≡ state_with l.row (ran (runs_in (g.T.TableView.table l.table).processor (numbers l.running)) (ends_in (g.T.TableView.table l.table).processor l.done) (moment_of σ)) σ;
  long : Long l.rows (g.S.StateView.state l.state);
  same_place : g.S.ArrivalState.names l.state ≡ g.S.ArrivalState.names l.fn.state;
}
