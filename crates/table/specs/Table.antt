-- A table and the test that it is a plan (document 01, "The plan on paper").
use Rattle.std.specs.Prelude.{ℕ, ◌+◌, Bool, ◌&&◌, List, leb, length, get_or}
use Rattle.facts.specs.Sums.{sum}
use Rattle.facts.specs.Tests.{all}
use Rattle.table.specs.Keys.{processors_key, tasks_key, period_key, processor_key}
use Rattle.table.specs.Ranges.{in_range}

-- A table: its counts, a list for each number of a task, and a list for each number of a row.
pub record Table : Type 0 where
  pub processors : ℕ
  pub tasks : ℕ
  pub period : List ℕ
  pub deadline : List ℕ
  pub steps : List ℕ
  pub processor : List ℕ
  pub priority : List ℕ
  pub time : List ℕ

-- The table of these counts and lists.
abbrev pub table_of : ℕ → ℕ → List ℕ → List ℕ → List ℕ → List ℕ → List ℕ → List ℕ → Table
table_of processors tasks period deadline steps processor priority time = record {
  processors = processors;
  tasks = tasks;
  period = period;
  deadline = deadline;
  steps = steps;
  processor = processor;
  priority = priority;
  time = time;
}

-- Entry i of a list, counted from 0; 0 past its end.
abbrev pub at : List ℕ → ℕ → ℕ
at l i = get_or l i 0

-- The rows before task i: its first row, counted from 0.
unfoldable pub first_row : Table → ℕ → ℕ
first_row T i = sum i (at T.steps)

-- As many rows as the steps of the tasks add up to.
unfoldable pub rows : Table → ℕ
rows T = first_row T T.tasks

-- "At most 128 rows in all."
abbrev pub most_rows : ℕ
most_rows = 128

-- Three values are in the ranges of a key and of the two keys after it: those of a task from `period` on, those of a row
-- from `processor` on.
unfoldable pub entry_right : ℕ → ℕ → ℕ → ℕ → ℕ → Bool
entry_right key own a b c = in_range key own a && (in_range (key + 1) own b && in_range (key + 2) own c)

-- The three lists have n entries at least.
unfoldable pub long_enough : ℕ → List ℕ → List ℕ → List ℕ → Bool
long_enough n a b c = leb n (length a) && (leb n (length b) && leb n (length c))

-- The lists have n entries, all right.
unfoldable pub entries_right : ℕ → ℕ → ℕ → List ℕ → List ℕ → List ℕ → Bool
entries_right n key own a b c = long_enough n a b c && all n (λ i. entry_right key own (at a i) (at b i) (at c i))

-- The table is a plan by the ranges: no value is missing or outside its range, and there are at most 128 rows.
unfoldable pub is_plan : Table → Bool
is_plan T =
    in_range processors_key 0 T.processors
    && (in_range tasks_key 0 T.tasks
    && (entries_right T.tasks period_key 0 T.period T.deadline T.steps
    && (leb (rows T) most_rows
    && entries_right (rows T) processor_key T.processors T.processor T.priority T.time)))
