use Rattle.std.proofs.Common.{[], refl, ◌∙◌, ◌≡◌, arith}
use Rattle.guards.specs.Moment.{moment_of}
use Rattle.guards.specs.Rows.{plan_from}
use Rattle.guards.specs.Running.{best, is_open, running}
use Rattle.facts.specs.Filled.{tab}
use Rattle.ticks.specs.Numbers.{number}
use Rattle.ticks.proofs.FoundLemmas.{found_most, found_next}
use Rattle.ticks.specs.FoundLaws.{better_ext}
use Rattle.ticks.proofs.running.running_rows.Goals as goal

pub loop-row-init : goal.loop-row-init
unfolding tab best number
loop-row-init g c = refl

pub next_best-requires : goal.next_best-requires
next_best-requires g c =
    let T = g.T.TableView.table c.args.table.now in
    let m = moment_of (g.S.StateView.state c.args.state.now) in
    (found_most (plan_from c.args.rows [] [] T.processor T.priority []) (is_open m) c.loop-row.row _ c.loop-row.invariant c.processor-on.result (omega (arith, c.processor-on.ensures, c.requires.0.processor_most c.loop-row.row (omega arith))), omega arith)

pub loop-row-preserved : goal.loop-row-preserved
unfolding is_open moment_of
loop-row-preserved g c =
    let T = g.T.TableView.table c.args.table.now in
    let m = moment_of (g.S.StateView.state c.args.state.now) in
    found_next (plan_from c.args.rows [] [] T.processor T.priority []) (is_open m) c.loop-row.row _ c.loop-row.invariant c.processor-on.result _ c.processor-on.ensures (omega (arith, c.processor-on.ensures, c.requires.0.processor_most c.loop-row.row (omega arith)))
    (c.next_best.ensures ∙ rw (c.completed.ensures, c.released.ensures, better_ext (plan_from 0 [] [] [] T.priority []) (plan_from c.args.rows [] [] T.processor T.priority []) (λ r. refl)))

pub returns : goal.returns
unfolding running
returns g c = let e : c.loop-row.row ≡ c.args.rows = omega arith in c.loop-row.invariant ∙ rw e
