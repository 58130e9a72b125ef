-- `planned::rows::view_rows` meets its contract: each row's period and whether it is first, task by task.
use Rattle.std.proofs.Common.{length-set, ◌+◌, ◌≡◌, sym, refl, ◌∙◌, Err, le-leb, arith}
use borrow.Author.Tests.{lt-leb}
use Rattle.facts.specs.FilledLaws.{filled_none, filled_more}
use Rattle.table.specs.declared.refusal.Refusal.TheVariants.{NotAPlan}
use Rattle.planned.specs.View.{viewed}
use Rattle.planned.specs.ViewLaws.{Inside, standing_start, next_task, this_task, inside_period, inside_first, inside_after}
use Rattle.table.specs.TableLaws.{checked}
use Rattle.table.specs.Table.{at}
use Rattle.planned.proofs.rows.view_rows.Given.{Over}
use Rattle.planned.proofs.rows.view_rows.Goals.{Joined-row-end, Then-row-end, then-row-end, else-row-end}
use Rattle.planned.proofs.rows.view_rows.Goals as goal

-- Where a task's rows are all laid, the walk stands at the next task.
next_inside : (g : Over) (c : Then-row-end g) → Inside (g.T.TableView.table c.args.table.now) (c.loop-row.task + 1) c.loop-row.row c.loop-row.row
next_inside g c =
    let i = c.loop-row.invariant in
    next_task _ i.checked i.standing (omega (arith, c.loop-row-test.true, i.counted)) (sym (c.if-row-end.true ∙ i.end_is))

-- Where the walk stands after the `if`: inside the task's rows,
inside : (g : Over) (c : Joined-row-end g) → Inside (g.T.TableView.table c.args.table.now) c.if-row-end.task c.if-row-end.start c.loop-row.row
inside g c =
    let i = c.loop-row.invariant in
    let below = c.loop-row-test.true in
    elim c.if-row-end.branch [
      | then-row-end w ↦ rw (w.task-is, w.start-is) (next_task _ i.checked i.standing (omega (arith, below, i.counted)) (sym (w.if-row-end.true ∙ i.end_is)))
      | else-row-end w ↦ rw (w.task-is, w.start-is) (this_task _ i.checked i.standing (λ e. w.if-row-end.false (sym (i.end_is ∙ e))))
    ]

-- which end where its steps are done.
ends : (g : Over) (c : Joined-row-end g) → c.if-row-end.end ≡ c.if-row-end.start + at (g.T.TableView.table c.args.table.now).steps c.if-row-end.task
ends g c =
    elim c.if-row-end.branch [
      | then-row-end w ↦ rw (w.task-is, w.start-is, w.end-is, w.steps.ensures) refl
      | else-row-end w ↦ rw (w.task-is, w.start-is, w.end-is) c.loop-row.invariant.end_is
    ]

pub returns-in_err-rows : goal.returns-in_err-rows
unfolding viewed
returns-in_err-rows g c =
    let n = c.in_err-rows.ensures in
    let passed : c.from_residual.result ≡ Err NotAPlan = grind (arith, n) in
    rw (passed, n.1)

pub returns-then-periods-count : goal.returns-then-periods-count
unfolding viewed
returns-then-periods-count g c = let n = c.in_ok-rows.ensures in rw (n.0, ← n.1, lt-leb _ _ c.if-periods-count.true)

pub returns-then-firsts-count : goal.returns-then-firsts-count
unfolding viewed
returns-then-firsts-count g c = let n = c.in_ok-rows.ensures in rw (n.0, ← n.1, le-leb _ _ c.if-periods-count.false, lt-leb _ _ c.if-firsts-count.true)

pub steps-end-requires : goal.steps-end-requires
steps-end-requires g c =
    let ok = checked _ (c.in_ok-rows.ensures).0 in
    omega (arith, ok.tasks_least, ok.tasks.long.three)

pub loop-row-init : goal.loop-row-init
loop-row-init g c =
    let n = c.in_ok-rows.ensures in
    let ok = checked _ n.0 in
    record {
      counted = n.1;
      checked = ok;
      standing = standing_start _ ok;
      period = filled_none _ _;
      first = filled_none _ _;
      period_long = refl;
      first_long = refl;
      end_is = omega (arith, c.steps-end.ensures);
    }

pub steps-requires : goal.steps-requires
steps-requires g c =
    let i = next_inside g (goal.at.steps-requires g c).Then-row-end in
    omega (arith, i.task_is, c.loop-row.invariant.checked.tasks.long.three)

pub overflow_add-end : goal.overflow_add-end
overflow_add-end g c =
    let l = c.loop-row in
    let i = next_inside g (goal.at.overflow_add-end g c).Then-row-end in
    omega (arith, c.steps.ensures, (l.invariant.checked.tasks.each (l.task + 1) i.task_is).steps_most, c.loop-row-test.true, l.invariant.counted, l.invariant.checked.rows_most)

pub period-requires : goal.period-requires
period-requires g c =
    let i = inside g (goal.at.period-requires g c).Joined-row-end in
    omega (arith, i.task_is, c.loop-row.invariant.checked.tasks.long.one)

pub loop-row-preserved : goal.loop-row-preserved
loop-row-preserved g c =
    let l = c.loop-row.invariant in
    let i = inside g (goal.at.loop-row-preserved g c).Joined-row-end in
    record {
      counted = l.counted;
      checked = l.checked;
      standing = inside_after _ i;
      period = rw l.period (filled_more _ _ _ _ (omega arith) (c.period.ensures ∙ sym (inside_period _ i)));
      first = rw l.first (filled_more _ _ _ _ (omega arith) (sym (inside_first _ i)));
      period_long = simp length-set l.period_long;
      first_long = simp length-set l.first_long;
      end_is = ends g (goal.at.loop-row-preserved g c).Joined-row-end;
    }

pub returns : goal.returns
unfolding viewed
returns g c =
    let l = c.loop-row in
    let n = c.in_ok-rows.ensures in
    let e : l.row ≡ c.in_ok-rows.rows = omega (arith, c.loop-row-test.false, l.auto.row-end) in
    rw (n.0, ← n.1, le-leb _ _ c.if-periods-count.false, le-leb _ _ c.if-firsts-count.false, l.invariant.period, l.invariant.first, e)
