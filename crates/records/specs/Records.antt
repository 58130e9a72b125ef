-- A table held as records, one for each task and one for each row (document 01, "The plan on paper": rows are held as records, one for each step).
use Rattle.std.specs.Prelude.{ℕ, min, List, length, get_or}
use Rattle.facts.specs.Filled.{filled}
use Rattle.table.specs.Table.{Table, most_rows}
use Rattle.columns.specs.Columns.{blank_of, chain_of, row_of, table_in}
use Rattle.columns.specs.declared.columns.Columns.{Columns}
use Rattle.columns.specs.declared.columns.Chain.{Chain}
use Rattle.columns.specs.declared.columns.Row.{Row}

-- What a place without a task reads as: 0 is outside the ranges of a period and of steps, so a table that lacks a task is no plan.
abbrev pub no_chain : Chain
no_chain = record { period = 0; deadline = 0; steps = 0 }

-- What a place without a row reads as: 0 is outside the ranges of a row's numbers, so a table that lacks a row is no plan.
abbrev pub no_row : Row
no_row = record { processor = 0; priority = 0; time = 0 }

-- The record of task i of a list, counted from 0.
abbrev pub chain_at : List Chain → ℕ → Chain
chain_at chains i = get_or chains i no_chain

-- The record of row i of a list, counted from 0.
abbrev pub row_at : List Row → ℕ → Row
row_at rows i = get_or rows i no_row

-- The columns with the first n records of tasks.
abbrev pub first_chains : Columns → List Chain → ℕ → Columns
first_chains c chains n = record {
  processors = c.processors;
  tasks = c.tasks;
  period = filled (λ i. (chain_at chains i).period) n c.period;
  deadline = filled (λ i. (chain_at chains i).deadline) n c.deadline;
  steps = filled (λ i. (chain_at chains i).steps) n c.steps;
  processor = c.processor;
  priority = c.priority;
  time = c.time;
}

-- The columns with the first n records of rows.
abbrev pub first_rows : Columns → List Row → ℕ → Columns
first_rows c rows n = record {
  processors = c.processors;
  tasks = c.tasks;
  period = c.period;
  deadline = c.deadline;
  steps = c.steps;
  processor = filled (λ i. (row_at rows i).processor) n c.processor;
  priority = filled (λ i. (row_at rows i).priority) n c.priority;
  time = filled (λ i. (row_at rows i).time) n c.time;
}

-- A plan has at most 32 tasks.
abbrev pub most_chains : ℕ
most_chains = 32

-- The columns with these records of tasks, as many as a plan may have.
abbrev pub with_chains : Columns → List Chain → Columns
with_chains c chains = first_chains c chains (min (length chains) most_chains)

-- The columns with these records of rows, as many as a plan may have.
abbrev pub with_rows : Columns → List Row → Columns
with_rows c rows = first_rows c rows (min (length rows) most_rows)

-- The columns of a table held as records.
abbrev pub columns_of : ℕ → ℕ → List Chain → List Row → Columns
columns_of processors tasks chains rows = with_rows (with_chains (blank_of processors tasks) chains) rows

-- The table held as records.
abbrev pub records_table : ℕ → ℕ → List Chain → List Row → Table
records_table processors tasks chains rows = table_in (columns_of processors tasks chains rows)

-- `records_table`, which no check opens unasked.
unfoldable pub in_records : ℕ → ℕ → List Chain → List Row → Table
in_records processors tasks chains rows = records_table processors tasks chains rows

-- The list with the first records of tasks laid over its front, count of them or as many as it has places; the rest stays.
abbrev pub laid_chains : Columns → ℕ → List Chain → List Chain
laid_chains c count chains = filled (chain_of c) (min count (length chains)) chains

-- The list with the first records of rows laid over its front, count of them or as many as it has places; the rest stays.
abbrev pub laid_rows : Columns → ℕ → List Row → List Row
laid_rows c count rows = filled (row_of c) (min count (length rows)) rows
