use Rattle.std.proofs.Common.{true, false, ◌≡◌, sym, ◌∙◌, arith}
use Rattle.table.specs.TableLaws.{long_of}
use Rattle.table.specs.Keys.{period_key}
use Rattle.facts.specs.TestsLaws.{all_none, all_more, all_fails}
use Rattle.table.specs.Table.{at, entries_right, entry_right}
use Rattle.planned.proofs.check.tasks_right.Goals as goal

pub returns-then-not-tasks_held : goal.returns-then-not-tasks_held
unfolding entries_right
returns-then-not-tasks_held g c = rw (sym c.tasks_held.ensures ∙ c.if-not-tasks_held.true)

pub loop-i-init : goal.loop-i-init
loop-i-init g c = let e = sym c.tasks_held.ensures ∙ c.if-not-tasks_held.false in (e, long_of _ _ _ _ e, all_none _)

pub returns-then-not-entry_right : goal.returns-then-not-entry_right
unfolding entries_right
returns-then-not-entry_right g c = let T = g.T.TableView.table c.args.table.now in
    let l = c.loop-i in
    let e : entry_right period_key 0 (at T.period l.i) (at T.deadline l.i) (at T.steps l.i) ≡ false = cc in
    rw l.invariant.0 (sym (all_fails c.args.n (λ k. entry_right period_key 0 (at T.period k) (at T.deadline k) (at T.steps k)) l.i (omega arith) e))

pub loop-i-preserved : goal.loop-i-preserved
loop-i-preserved g c = let T = g.T.TableView.table c.args.table.now in
    let l = c.loop-i in
    let e : entry_right period_key 0 (at T.period l.i) (at T.deadline l.i) (at T.steps l.i) ≡ true = cc in
    (l.invariant.0, l.invariant.1, all_more l.i (λ k. entry_right period_key 0 (at T.period k) (at T.deadline k) (at T.steps k)) l.invariant.2 e)

pub returns : goal.returns
unfolding entries_right
returns g c =
    let l = c.loop-i in
    let e : l.i ≡ c.args.n = omega arith in
    rw l.invariant.0 (sym (rw e at l.invariant.2))
