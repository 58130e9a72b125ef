-- A table and nothing else (document 01, "The plan on paper": "what a list holds past them is no part of the table").
use Rattle.std.specs.Prelude.{take}
use Rattle.table.specs.Table.{Table, rows}

-- The table with its lists cut to its tasks and its rows.
unfoldable pub trimmed : Table → Table
trimmed T = record {
  processors = T.processors;
  tasks = T.tasks;
  period = take T.tasks T.period;
  deadline = take T.tasks T.deadline;
  steps = take T.tasks T.steps;
  processor = take (rows T) T.processor;
  priority = take (rows T) T.priority;
  time = take (rows T) T.time;
}
