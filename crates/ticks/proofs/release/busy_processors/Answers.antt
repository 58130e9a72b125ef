use Rattle.std.proofs.Common.{lt-ltb, le-ltb, ◌≡◌, refl, ◌∙◌, arith}
use Rattle.facts.specs.Filled.{tab}
use Rattle.facts.specs.Tests.{all}
use Rattle.table.specs.Table.{at}
use Rattle.guards.specs.Machine.{idle}
use Rattle.guards.specs.Moment.{moment_of}
use Rattle.guards.specs.Running.{is_open}
use Rattle.ticks.specs.BusyLaws.{busy_below, busy_more, busy_same}
use Rattle.ticks.proofs.release.busy_processors.Goals.{then-completed-released, else-completed-released}
use Rattle.ticks.proofs.release.busy_processors.Goals as goal

pub loop-row-init : goal.loop-row-init
unfolding tab busy_below all
loop-row-init g c = refl

pub loop-row-preserved : goal.loop-row-preserved
unfolding is_open moment_of
loop-row-preserved g c =
    let T = g.T.TableView.table c.args.table.now in
    let σ = g.S.StateView.state c.args.state.now in
    let l = c.loop-row in
    let p = c.requires.0.processor_most l.row (omega arith) in
    elim c.if-completed-released.branch [
      | then-completed-released w ↦ w.busy-is ∙ rw (l.invariant, w.processor.ensures) (busy_more (at T.processor) (is_open (moment_of σ)) l.row 17 (lt-ltb _ _ (rw (c.completed.ensures, c.released.ensures) at w.if-completed-released.true)) (omega arith))
      | else-completed-released w ↦ w.busy-is ∙ l.invariant ∙ busy_same (at T.processor) (is_open (moment_of σ)) l.row 17 (le-ltb _ _ (rw (c.completed.ensures, c.released.ensures) at w.if-completed-released.false))
    ]

pub returns : goal.returns
unfolding idle busy_below is_open moment_of
returns g c = let e : c.loop-row.row ≡ c.args.rows = omega arith in c.loop-row.invariant ∙ rw e
