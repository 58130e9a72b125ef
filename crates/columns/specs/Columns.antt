-- A table by value, and its records (document 01, "The plan on paper": rows are held as records, one for each step).
use Rattle.std.specs.Prelude.{ℕ, set, replicate}
use Rattle.table.specs.Table.{Table, table_of, at}
use Rattle.columns.specs.declared.columns.Columns.{Columns}
use Rattle.columns.specs.declared.columns.Chain.{Chain}
use Rattle.columns.specs.declared.columns.Row.{Row}

-- The table of the columns.
abbrev pub table_in : Columns → Table
table_in c = table_of c.processors c.tasks c.period c.deadline c.steps c.processor c.priority c.time

-- The counts, and all numbers of tasks and rows 0.
abbrev pub blank_of : ℕ → ℕ → Columns
blank_of processors tasks = record {
  processors = processors;
  tasks = tasks;
  period = replicate 32 0;
  deadline = replicate 32 0;
  steps = replicate 32 0;
  processor = replicate 128 0;
  priority = replicate 128 0;
  time = replicate 128 0;
}

-- The record at place i of the task columns, counted from 0; all 0 past their end.
abbrev pub chain_of : Columns → ℕ → Chain
chain_of c i = record { period = at c.period i; deadline = at c.deadline i; steps = at c.steps i }

-- The record at place i of the row columns, counted from 0; all 0 past their end.
abbrev pub row_of : Columns → ℕ → Row
row_of c i = record { processor = at c.processor i; priority = at c.priority i; time = at c.time i }

-- The columns with another record of task i; a place past their end changes nothing.
abbrev pub with_chain : Columns → ℕ → Chain → Columns
with_chain c i chain = record {
  processors = c.processors;
  tasks = c.tasks;
  period = set c.period i chain.period;
  deadline = set c.deadline i chain.deadline;
  steps = set c.steps i chain.steps;
  processor = c.processor;
  priority = c.priority;
  time = c.time;
}

-- The columns with another record of row i; a place past their end changes nothing.
abbrev pub with_row : Columns → ℕ → Row → Columns
with_row c i row = record {
  processors = c.processors;
  tasks = c.tasks;
  period = c.period;
  deadline = c.deadline;
  steps = c.steps;
  processor = set c.processor i row.processor;
  priority = set c.priority i row.priority;
  time = set c.time i row.time;
}
