-- A table as far as its lines go, and which line comes next (document 01, "The plan on paper": the order of the lines, and
-- "Each key decides what may follow it").
use Rattle.std.specs.Prelude.{ℕ, ◌+◌, Bool, true, false, cond, List, [], ◌∷◌, ◌++◌, ltb, eqb, length}
use Rattle.facts.specs.Sums.{sum}
use Rattle.table.specs.Keys.{plan_key, processors_key, tasks_key, task_key, period_key, deadline_key, steps_key, processor_key, priority_key, time_key, no_key}
use Rattle.table.specs.Table.{Table, table_of, at}

-- The key due and the table so far.
pub record Draft : Type 0 where
  pub key : ℕ
  pub table : Table

-- Before the first line.
unfoldable pub blank : Draft
blank = record { key = plan_key; table = table_of 0 0 [] [] [] [] [] [] }

-- The rows that the `steps` lines so far ask for.
unfoldable pub rows_asked : Table → ℕ
rows_asked T = sum (length T.steps) (at T.steps)

-- The plan's own number for the range of the key due: the next task's number for `task`, the plan's processors else.
unfoldable pub own : Draft → ℕ
own d = cond (eqb d.key task_key) (length d.table.steps + 1) d.table.processors

-- The list with the value added behind it, if it is the list of the key.
unfoldable pub added : Bool → ℕ → List ℕ → List ℕ
added true v l = l ++ (v ∷ [])
added false v l = l

-- The table with the value of the key in its place. `plan` and `task` say nothing that a table holds.
unfoldable pub placed : ℕ → ℕ → Table → Table
placed key v T = record {
  processors = cond (eqb key processors_key) v T.processors;
  tasks = cond (eqb key tasks_key) v T.tasks;
  period = added (eqb key period_key) v T.period;
  deadline = added (eqb key deadline_key) v T.deadline;
  steps = added (eqb key steps_key) v T.steps;
  processor = added (eqb key processor_key) v T.processor;
  priority = added (eqb key priority_key) v T.priority;
  time = added (eqb key time_key) v T.time;
}

-- The key that follows: after a row's `time` the task's next row, else the next task, else none; after any other key the
-- next in order.
unfoldable pub following : ℕ → Table → ℕ
following key T =
    cond (eqb key time_key)
    (cond (ltb (length T.time) (rows_asked T)) processor_key (cond (ltb (length T.steps) T.tasks) task_key no_key))
    (key + 1)

-- The draft with one line more.
unfoldable pub advanced : Draft → ℕ → Draft
advanced d v = record { key = following d.key (placed d.key v d.table); table = placed d.key v d.table }
