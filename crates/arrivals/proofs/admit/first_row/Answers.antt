use Rattle.std.proofs.Common.{rules, ℕ, ◌≡◌, true, ◌&&◌, refl, sym, ◌∙◌, ap, arith}
use Rattle.std.specs.Prelude.{leb}
use Rattle.table.specs.Table.{is_plan}
use Rattle.table.specs.TableLaws.{checked}
use Rattle.guards.specs.ArrivalLaws.{task_in_range}
use Rattle.guards.specs.Calls as calls
use Rattle.guards.specs.Calls.{refused}
use Rattle.guards.specs.Lent.{on_lists}
use Rattle.guards.specs.LentCalls.{fits_held}
use Rattle.guards.specs.LentLaws.{rows_fit_lent}
use Rattle.guards.specs.ViewedLaws.{view_plan, view_none}
use Rattle.arrivals.proofs.CameLemmas.{came_none, came_unfit, came_no_task}
use Rattle.arrivals.proofs.admit.first_row.Given.{Over}
use Rattle.arrivals.proofs.admit.first_row.Goals.{Else-not-rows_fit, Else-not-has_task}
use Rattle.arrivals.proofs.admit.first_row.Goals as goal

pub returns-in_err-count-clause-refused : goal.returns-in_err-count-clause-refused
returns-in_err-count-clause-refused g c =
    let T = g.T.TableView.table c.args.table.now in
    let σ = g.S.StateView.state c.args.state.now in
    let v = view_none T _ _ c.view_rows.ensures refl refl c.in_err-count.field-0.0 c.in_err-count.was in
    let n : refused c.in_err-count.field-0.0 σ ≡ on_lists T σ (calls.arrive T σ c.args.task) = rw v.1 (came_none T σ c.args.task v.0) in
    search (rules, n)

-- Past the first test the table is a plan,
plan_here : (g : Over) (c : Else-not-rows_fit g) → is_plan (g.T.TableView.table c.args.table.now) ≡ true
plan_here g c = (view_plan _ _ _ c.view_rows.ensures refl refl _ c.in_ok-count.was).plan

-- past the second the state fits it,
fits_here : (g : Over) (c : Else-not-rows_fit g) → fits_held (g.T.TableView.table c.args.table.now) (g.S.StateView.state c.args.state.now) ≡ true
fits_here g c = sym (rows_fit_lent (view_plan _ _ _ c.view_rows.ensures refl refl _ c.in_ok-count.was) (g.S.StateView.state c.args.state.now)) ∙ sym c.rows_fit.ensures ∙ c.if-not-rows_fit.false

-- and past the third the task is the plan's.
task_here : (g : Over) (c : Else-not-has_task g) → leb 1 c.args.task && leb c.args.task (g.T.TableView.table c.args.table.now).tasks ≡ true
task_here g c = rw (← c.tasks.ensures) (sym c.has_task.ensures ∙ c.if-not-has_task.false)

pub returns-then-not-rows_fit-clause-refused : goal.returns-then-not-rows_fit-clause-refused
returns-then-not-rows_fit-clause-refused g c =
    let T = g.T.TableView.table c.args.table.now in
    let σ = g.S.StateView.state c.args.state.now in
    let o = view_plan T _ _ c.view_rows.ensures refl refl _ c.in_ok-count.was in
    came_unfit T σ c.args.task o.plan (sym (rows_fit_lent o σ) ∙ sym c.rows_fit.ensures ∙ c.if-not-rows_fit.true)

pub returns-then-not-has_task-clause-refused : goal.returns-then-not-has_task-clause-refused
returns-then-not-has_task-clause-refused g c =
    let T = g.T.TableView.table c.args.table.now in
    let σ = g.S.StateView.state c.args.state.now in
    let h = (goal.at.returns-then-not-has_task-clause-refused g c).Else-not-rows_fit in
    came_no_task T σ c.args.task (plan_here g h) (fits_here g h)
    (ap (λ (n : ℕ). leb 1 c.args.task && leb c.args.task n) (sym c.tasks.ensures) ∙ sym c.has_task.ensures ∙ c.if-not-has_task.true)

pub first_row-row-requires : goal.first_row-row-requires
first_row-row-requires g c =
    let ok = checked _ (plan_here g (goal.at.first_row-row-requires g c).Else-not-rows_fit) in
    let t = task_in_range (g.T.TableView.table c.args.table.now).tasks c.args.task (task_here g (goal.at.first_row-row-requires g c).Else-not-has_task) in
    record {
      few = omega (arith, t, ok.tasks_most);
      long = omega (arith, t, ok.tasks.long.three);
      most = λ i l. (ok.tasks.each i (omega (arith, t))).steps_most;
    }

pub returns-clause-allowed : goal.returns-clause-allowed
returns-clause-allowed g c =
    let h = (goal.at.returns-clause-allowed g c).Else-not-rows_fit in
    record {
      plan = plan_here g h;
      fits = fits_here g h;
      task_is = task_here g (goal.at.returns-clause-allowed g c).Else-not-has_task;
      row_is = c.first_row-row.ensures;
    }
