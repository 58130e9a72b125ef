use Rattle.std.proofs.Common.{sym, ◌∙◌, refl, ap, ℕ, arith}
use Rattle.table.specs.Table.{first_row, rows}
use Rattle.table.specs.TableLaws.{checked}
use Rattle.planned.proofs.rows.count_rows.Goals as goal

pub returns-then-not-is_plan : goal.returns-then-not-is_plan
returns-then-not-is_plan g c = (refl, sym c.is_plan.ensures ∙ c.if-not-is_plan.true)

pub first_row-requires : goal.first_row-requires
first_row-requires g c =
    let ok = checked _ (sym c.is_plan.ensures ∙ c.if-not-is_plan.false) in
    record {
      few = omega (arith, c.tasks-tasks.ensures, ok.tasks_most);
      long = omega (arith, c.tasks-tasks.ensures, ok.tasks.long.three);
      most = λ i l. (ok.tasks.each i (omega (arith, l, c.tasks-tasks.ensures))).steps_most;
    }

pub returns : goal.returns
unfolding rows
returns g c =
    (sym c.is_plan.ensures ∙ c.if-not-is_plan.false, c.first_row.ensures ∙ ap (λ (n : ℕ). first_row (g.T.TableView.table c.args.table.now) n) c.tasks-tasks.ensures)
