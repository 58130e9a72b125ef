-- The walk over a plan's rows, task by task.
use Prim.Native.Nat.{ℕ, suc, ◌+◌, ◌≤◌, ◌<◌}
use Rattle.std.specs.Prelude.{◌≡◌, eqb}
use Rattle.std.proofs.Common.{sym, add-one}
use Rattle.std.proofs.Math.Path.{ap}
use native.Mathlib.Omega.{arith, by_contra}
use Rattle.table.specs.Table.{Table, at, first_row, rows}
use Rattle.table.specs.TableLaws.{Checked}
use Rattle.table.specs.Plan.{plan_of}
use Rattle.table.specs.PlanLaws.{Of, task_is, first_row_suc, first_row_none, first_row_mono}

-- The walk stands before a row at or after the first row of a task, start, and at most just past the task's rows.
pub record Standing (T : Table) (task start row : ℕ) : Type 0 where
  pub task_is : task < T.tasks
  pub start_is : start ≡ first_row T task
  pub from : start ≤ row
  pub to : row ≤ start + at T.steps task

-- The row is one of the task's.
pub record Inside (T : Table) (task start row : ℕ) : Type 0 where
  pub task_is : task < T.tasks
  pub start_is : start ≡ first_row T task
  pub of : Of T task row

pub standing_start : (T : Table) → Checked T → Standing T 0 0 0
standing_start T ok = record {
  task_is = ok.tasks_least;
  start_is = sym (first_row_none T);
  from = omega arith;
  to = omega arith;
}

module _ (T : Table) (ok : Checked T) {task start row : ℕ} (s : Standing T task start row) where
  -- Past the task's rows, the next task begins,
  pub next_task : row < rows T → start + at T.steps task ≡ row → Inside T (task + 1) row row
  unfolding rows
  next_task l e =
      let begins : row ≡ first_row T (suc task) = omega (arith, s.start_is, first_row_suc T task) in
      let more : suc task < T.tasks = by_contra (suc (suc task)) T.tasks (λ b. omega (arith, first_row_mono T T.tasks (suc task) (omega arith))) in
      rw (add-one task) (record {
        task_is = more;
        start_is = begins;
        of = record {
          from = omega arith;
          to = omega (arith, first_row_suc T (suc task), (ok.tasks.each (suc task) more).steps_least);
        };
      })

  -- and else the row is the task's.
  pub this_task : (start + at T.steps task ≡ row → ⊥) → Inside T task start row
  this_task n = record {
    task_is = s.task_is;
    start_is = s.start_is;
    of = record { from = omega (arith, s.start_is, s.from); to = omega (arith, s.start_is, s.to, first_row_suc T task) };
  }

-- What the row takes from its task, and where the walk stands after it.
module _ (T : Table) {task start row : ℕ} (s : Inside T task start row) where
  pub inside_period : (plan_of T).period row ≡ at T.period task
  unfolding plan_of
  inside_period = ap (λ (i : ℕ). at T.period i) (task_is T task row s.task_is s.of)

  pub inside_first : (plan_of T).first row ≡ eqb start row
  unfolding plan_of
  inside_first = rw (task_is T task row s.task_is s.of, s.start_is)

  pub inside_after : Standing T task start (row + 1)
  inside_after = record {
    task_is = s.task_is;
    start_is = s.start_is;
    from = omega (arith, s.start_is, s.of.from);
    to = omega (arith, s.start_is, s.of.to, first_row_suc T task);
  }
