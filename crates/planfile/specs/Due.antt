-- The line due by its key and the counts so far: as much of a draft as decides what may follow.
use Rattle.std.specs.Prelude.{ℕ, ◌+◌, cond, ltb, eqb, length}
use Rattle.table.specs.Keys.{plan_key, processors_key, tasks_key, task_key, steps_key, processor_key, time_key, no_key}
use Rattle.planfile.specs.declared.due.Due.{Due}
use Rattle.planfile.specs.Draft.{Draft, rows_asked}

-- What is due behind a draft.
unfoldable pub due_of : Draft → Due
due_of d = record {
  key = d.key;
  processors = d.table.processors;
  tasks = d.table.tasks;
  task = length d.table.steps;
  row = length d.table.time;
  asked = rows_asked d.table;
}

-- The first line's.
abbrev pub begun : Due
begun = record { key = plan_key; processors = 0; tasks = 0; task = 0; row = 0; asked = 0 }

-- The plan's own number for the range of the key due.
unfoldable pub own_number : Due → ℕ
own_number u = cond (eqb u.key task_key) (u.task + 1) u.processors

-- The counts with the value of this key.
unfoldable pub counted : ℕ → Due → ℕ → Due
counted key u v = record {
  key = u.key;
  processors = cond (eqb key processors_key) v u.processors;
  tasks = cond (eqb key tasks_key) v u.tasks;
  task = cond (eqb key steps_key) (u.task + 1) u.task;
  row = cond (eqb key time_key) (u.row + 1) u.row;
  asked = cond (eqb key steps_key) (u.asked + v) u.asked;
}

-- The key that follows, once the value is counted.
unfoldable pub next_key : Due → ℕ
next_key u =
    cond (eqb u.key time_key)
    (cond (ltb u.row u.asked) processor_key (cond (ltb u.task u.tasks) task_key no_key))
    (u.key + 1)

-- The counts with the key that follows.
unfoldable pub keyed : Due → Due
keyed u = record { key = next_key u; processors = u.processors; tasks = u.tasks; task = u.task; row = u.row; asked = u.asked }

-- What is due behind the line with this value.
unfoldable pub past : Due → ℕ → Due
past u v = keyed (counted u.key u v)
