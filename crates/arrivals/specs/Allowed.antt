-- Where an instance of a task may arrive.
use Rattle.std.specs.Prelude.{ℕ, ◌-◌, ◌≡◌, true, ◌&&◌, leb}
use Rattle.table.specs.Table.{Table, first_row, is_plan}
use Rattle.guards.specs.declared.state.State.{State}
use Rattle.guards.specs.LentCalls.{fits_held}

-- The table is a plan, the state fits it, the task is one of its tasks, and the row is the task's first.
pub record Allowed (T : Table) (σ : State) (task row : ℕ) : Type 0 where
  pub plan : is_plan T ≡ true
  pub fits : fits_held T σ ≡ true
  pub task_is : leb 1 task && leb task T.tasks ≡ true
  pub row_is : row ≡ first_row T (task - 1)
