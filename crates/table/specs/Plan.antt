-- A plan seen as functions of the row number, counted from 0.
use Rattle.std.specs.Prelude.{ℕ, suc, Bool, cond, leb, eqb}
use Rattle.facts.specs.Sums.{sum_if}
use Rattle.table.specs.Table.{Table, at, first_row, rows}

-- What the bounds and the guards read of a plan.
pub record Plan : Type 0 where
  pub rows : ℕ
  pub period : ℕ → ℕ
  pub cost : ℕ → ℕ
  pub processor : ℕ → ℕ
  pub priority : ℕ → ℕ
  pub first : ℕ → Bool

-- The task of row r, counted from 0: as many as have all their rows before it.
unfoldable pub task_of : Table → ℕ → ℕ
task_of T r = sum_if T.tasks (λ i. leb (first_row T (suc i)) r) (λ i. 1)

-- The time that counts for row r: its run time (document 01, "Bounds": "time c").
unfoldable pub cost : Table → ℕ → ℕ
cost T r = at T.time r

-- The deadline in force of a task with this period and this deadline (document 01, "The plan on paper": "`deadline=0`
-- means the deadline in force is the period").
abbrev pub deadline_from : ℕ → ℕ → ℕ
deadline_from period deadline = cond (eqb deadline 0) period deadline

-- The deadline in force of task i, counted from 0.
unfoldable pub in_force : Table → ℕ → ℕ
in_force T i = deadline_from (at T.period i) (at T.deadline i)

-- The table's rows: a row has its task's period, and is first where its task's rows begin.
unfoldable pub plan_of : Table → Plan
plan_of T = record {
  rows = rows T;
  period = λ r. at T.period (task_of T r);
  cost = cost T;
  processor = at T.processor;
  priority = at T.priority;
  first = λ r. eqb (first_row T (task_of T r)) r;
}
