use Rattle.std.proofs.Common.{◌+◌, refl, ◌∙◌, arith}
use Rattle.guards.specs.Moment.{moment_of}
use Rattle.ticks.specs.Steps.{opened_where, first_in, idle_in}
use Rattle.ticks.proofs.RowLemmas.{none_made, made_long, row_opened}
use Rattle.ticks.proofs.release.open_guards.Goals as goal

pub loop-row-init : goal.loop-row-init
unfolding opened_where moment_of
loop-row-init g c =
    let T = g.T.TableView.table c.args.table.now in
    let σ = g.S.StateView.state c.args.state.now in
    record {
      state = none_made (opened_where (first_in c.args.rows.now.firsts.now) (idle_in T.processor c.args.busy.now) (moment_of σ)) σ refl;
      long = c.requires.long;
      same_place = refl;
    }

pub loop-row-preserved : goal.loop-row-preserved
loop-row-preserved g c =
    let T = g.T.TableView.table c.args.table.now in
    let σ = g.S.StateView.state c.args.state.now in
    let n = c.loop-row.row in
    let i = c.loop-row.invariant in
    let e =
    c.set_guard.ensures.state
    ∙ row_opened σ _ n c.args.rows.now.count (omega arith) c.requires.long (first_in c.args.rows.now.firsts.now) (idle_in T.processor c.args.busy.now) _ i.state
    (c.opened_guard.ensures ∙ rw (c.guard-guard.ensures, c.clock-clock.ensures, c.processor-on.ensures) refl) in
    record {
      state = e;
      long = made_long _ σ _ (n + 1) c.args.rows.now.count (omega arith) c.requires.long e;
      same_place = c.set_guard.ensures.same_place ∙ i.same_place;
    }
