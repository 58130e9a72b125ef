use Rattle.std.proofs.Common.{[], ◌≡◌, cond, pred, length}
use Rattle.facts.specs.Filled.{filled}
use Rattle.table.specs.Table.{at}
use Rattle.guards.specs.Machine.{due, let_go}
use Rattle.guards.specs.Lent.{Long}
use Rattle.guards.specs.Moment.{moment_of, state_with}
use Rattle.guards.specs.Rows.{plan_from}
use Rattle.ticks.proofs.release.let_go.Given as goal

-- the rows so far have had step 5
abbrev pub invariant-loop-row : goal.invariant-loop-row
invariant-loop-row g l =
    let σ = g.S.StateView.state l.fn.state in
    let P = plan_from l.rows.count l.rows.periods.now l.rows.firsts.now [] [] [] in record {
      before : l.before ≡ at σ.completed (pred l.row);
      state : g.S.StateView.state l.state ≡ state_with l.row (let_go P (moment_of σ)) σ;
      bytes : l.out ≡ filled (λ r. cond (due P (moment_of σ) r) 1 0) l.row l.fn.out;
      out_long : length l.out ≡ length l.fn.out;
      long : Long l.rows.count (g.S.StateView.state l.state);
      same_place : g.S.ArrivalState.names l.state ≡ g.S.ArrivalState.names l.fn.state;
    }
