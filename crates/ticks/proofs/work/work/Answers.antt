use Rattle.std.proofs.Common.{◌+◌, refl, ◌∙◌, ap, arith}
use Rattle.guards.specs.ArrivalLaws.{less_one}
use Rattle.guards.specs.Calls.{is_done}
use Rattle.guards.specs.Moment.{moment_of}
use Rattle.table.specs.Table.{at}
use Rattle.ticks.specs.Numbers.{numbers}
use Rattle.ticks.specs.Steps.{ran, runs_in, ends_in}
use Rattle.ticks.proofs.FoundLemmas.{read_number}
use Rattle.ticks.proofs.RowLemmas.{none_made, made_long, read_completed, read_used, row_ran}
use Rattle.ticks.proofs.work.work.Goals as goal

pub loop-row-init : goal.loop-row-init
unfolding ran moment_of
loop-row-init g c =
    let T = g.T.TableView.table c.args.table.now in
    let σ = g.S.StateView.state c.args.state.now in
    let m = ran (runs_in T.processor (numbers c.args.running.now)) (ends_in T.processor c.args.done.now) (moment_of σ) in
    let e = c.set_clock.ensures.state ∙ none_made m σ (ap (λ k. k + 1) c.clock.ensures) in
    record { state = e; long = made_long m σ _ 0 c.args.rows (omega arith) c.requires.long e; same_place = c.set_clock.ensures.same_place }

pub work_row-requires : goal.work_row-requires
work_row-requires g c =
    let σ = g.S.StateView.state c.args.state.now in
    let n = c.loop-row.row in
    let i = c.loop-row.invariant in
    record {
      long = record { released = omega (arith, i.long.released); completed = omega (arith, i.long.completed); used = omega (arith, i.long.used); guard = omega (arith, i.long.guard) };
      completed_most = omega (arith, read_completed _ σ _ n c.args.rows (omega arith) c.requires.long i.state, c.requires.reads.completed_most n (omega arith));
      used_most = omega (arith, read_used _ σ _ n c.args.rows (omega arith) c.requires.long i.state, c.requires.reads.used_most n (omega arith));
    }

pub loop-row-preserved : goal.loop-row-preserved
unfolding is_done
loop-row-preserved g c =
    let T = g.T.TableView.table c.args.table.now in
    let σ = g.S.StateView.state c.args.state.now in
    let n = c.loop-row.row in
    let i = c.loop-row.invariant in
    let e =
    c.work_row.ensures.state
    ∙ row_ran σ _ n c.args.rows (omega arith) c.requires.long (runs_in T.processor (numbers c.args.running.now)) (ends_in T.processor c.args.done.now) _ _ i.state
    (c.is_row.ensures ∙ rw (c.processor-on.ensures, read_number c.args.running.now (at T.processor n)) refl)
    (rw (c.processor-on.ensures, less_one) refl) in
    record {
      state = e;
      long = made_long _ σ _ (n + 1) c.args.rows (omega arith) c.requires.long e;
      same_place = c.work_row.ensures.same_place ∙ i.same_place;
    }
