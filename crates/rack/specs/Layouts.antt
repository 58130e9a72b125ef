-- Table and state as byte lists of one layout each (docs/LAYOUTS.md): words of eight bytes, the least significant first.
use Rattle.std.specs.Prelude.{ℕ, min, List, replicate}
use Rattle.facts.specs.Sums.{sum}
use Rattle.words.specs.Words.{word, with_word, gathered, with_field}
use Rattle.table.specs.Table.{Table, table_of, at, rows}
use Rattle.guards.specs.declared.state.State.{State}

-- A table list has 482 words: two counts, three words for each of 32 tasks and three for each of 128 rows.
abbrev pub table_bytes : ℕ
table_bytes = 3856

-- A state list has 513 words: the clock, and four words for each of 128 rows.
abbrev pub state_bytes : ℕ
state_bytes = 4104

-- How many tasks the table of a list has, up to the 32 that the list has room for.
unfoldable pub tasks_in : List ℕ → ℕ
tasks_in l = min (word l 1) 32

-- One number of every task: the words from, from + 3, ..; what is no task of the table reads as 0.
unfoldable pub task_field : List ℕ → ℕ → List ℕ
task_field l from = gathered l from 3 (tasks_in l) (replicate 32 0)

-- How many rows the table of a list has, up to the 128 that the list has room for.
unfoldable pub rows_in : List ℕ → ℕ
rows_in l = min (sum (tasks_in l) (at (task_field l 4))) 128

-- One number of every row: the words from, from + 3, ..; what is no row of the table reads as 0.
unfoldable pub row_field : List ℕ → ℕ → List ℕ
row_field l from = gathered l from 3 (rows_in l) (replicate 128 0)

-- The table of a table list: word 0 has the processors, word 1 the tasks, 2 on the periods, 3 on the deadlines, 4 on the
-- steps, 98 on the processors of the rows, 99 on their priorities, 100 on their times.
unfoldable pub table_in : List ℕ → Table
table_in l =
    table_of (word l 0) (word l 1) (task_field l 2) (task_field l 3) (task_field l 4) (row_field l 98) (row_field l 99) (row_field l 100)

-- The list with a table in it; words past its tasks and rows stay.
unfoldable pub with_table : Table → List ℕ → List ℕ
with_table T l =
    let counts = with_word (with_word l 0 T.processors) 1 T.tasks in
    let periods = with_field counts 2 3 T.tasks T.period in
    let deadlines = with_field periods 3 3 T.tasks T.deadline in
    let steps = with_field deadlines 4 3 T.tasks T.steps in
    let processors = with_field steps 98 3 (rows T) T.processor in
    let priorities = with_field processors 99 3 (rows T) T.priority in
    with_field priorities 100 3 (rows T) T.time

-- The state of a state list for a plan of n rows: word 0 has the clock, 1 on the instances released, 2 on those completed,
-- 3 on the ticks used, 4 on the guards; what is no row of the plan reads as 0.
unfoldable pub state_in : ℕ → List ℕ → State
state_in n l = record {
  clock = word l 0;
  released = gathered l 1 4 n (replicate 128 0);
  completed = gathered l 2 4 n (replicate 128 0);
  used = gathered l 3 4 n (replicate 128 0);
  guard = gathered l 4 4 n (replicate 128 0);
}

-- The list with a state of n rows in it; words past the rows stay.
unfoldable pub with_state : ℕ → State → List ℕ → List ℕ
with_state n σ l =
    let clock = with_word l 0 σ.clock in
    let released = with_field clock 1 4 n σ.released in
    let completed = with_field released 2 4 n σ.completed in
    let used = with_field completed 3 4 n σ.used in
    with_field used 4 4 n σ.guard
