use Rattle.std.proofs.Common.{[], ◌+◌, add-one, length-set, refl, ◌<◌, ◌∙◌, ap, arith}
use Rattle.facts.specs.FilledLaws.{filled_none}
use Rattle.table.specs.Table.{at}
use Rattle.guards.specs.declared.state.State.{State}
use Rattle.guards.specs.Machine.{let_go}
use Rattle.guards.specs.Moment.{moment_of}
use Rattle.guards.specs.Rows.{plan_from}
use Rattle.ticks.specs.TurnLaws.{made_store}
use Rattle.ticks.proofs.ByteLemmas.{byte_of}
use Rattle.ticks.proofs.RowLemmas.{none_made, made_long, read_released, read_completed, row_due, row_let_go}
use Rattle.ticks.proofs.release.let_go.Goals as goal

pub loop-row-init : goal.loop-row-init
unfolding let_go moment_of
loop-row-init g c =
    let σ = g.S.StateView.state c.args.state.now in
    let P = plan_from c.args.rows.now.count c.args.rows.now.periods.now c.args.rows.now.firsts.now [] [] [] in
    record {
      before = c.completed-before.ensures;
      state = none_made (let_go P (moment_of σ)) σ refl;
      bytes = filled_none _ _;
      out_long = refl;
      long = c.requires.long;
      same_place = refl;
    }

pub release_row-due-requires : goal.release_row-due-requires
release_row-due-requires g c =
    let σ = g.S.StateView.state c.args.state.now in
    let n = c.loop-row.row in
    let i = c.loop-row.invariant in
    record {
      here = (omega arith, omega arith);
      long = record { released = omega (arith, i.long.released); completed = omega (arith, i.long.completed); used = omega (arith, i.long.used); guard = omega (arith, i.long.guard) };
      small = (omega arith, (omega (arith, read_released _ σ _ n c.args.rows.now.count (omega arith) c.requires.long i.state, c.requires.reads.released_most n (omega arith)), c.requires.reads.period_most n (omega arith)));
    }

pub loop-row-preserved : goal.loop-row-preserved
loop-row-preserved g c =
    let σ = g.S.StateView.state c.args.state.now in
    let τ = g.S.StateView.state c.loop-row.state in
    let P = plan_from c.args.rows.now.count c.args.rows.now.periods.now c.args.rows.now.firsts.now [] [] [] in
    let n = c.loop-row.row in
    let k = c.args.rows.now.count in
    let l : n < k = omega arith in
    let z = c.requires.long in
    let i = c.loop-row.invariant in
    let t = c.release_row-due in
    let d = t.ensures.due ∙ rw c.clock-clock.ensures refl in
    let e = t.ensures.state ∙ rw c.clock-clock.ensures (row_let_go σ τ n k l z P t.result c.loop-row.before i.state i.before d) in
    record {
      before = rw add-one (c.completed-before-in-loop-row.ensures ∙ ap (λ (ρ : State). at ρ.completed n) t.ensures.state ∙ read_completed (let_go P (moment_of σ)) σ τ n k l z i.state);
      state = e;
      bytes = made_store _ n c.args.out.now i.bytes (omega arith) (c.from.ensures ∙ byte_of t.result ∙ rw (row_due σ τ n k l z P t.result c.loop-row.before i.state i.before d) refl);
      out_long = length-set c.loop-row.out n c.from.result ∙ i.out_long;
      long = made_long (let_go P (moment_of σ)) σ _ (n + 1) k (omega arith) z e;
      same_place = t.ensures.same_place ∙ i.same_place;
    }
