-- A table written to a table list is read from it.
use Rattle.std.specs.Prelude.{ℕ, ◌≤◌, ◌<◌, ◌≡◌, true, List, length, replicate}
use Rattle.std.proofs.Common.{◌∙◌, arith}
use Rattle.std.proofs.lemmas.List.{length-replicate}
use Rattle.facts.specs.Sums.{sum}
use Rattle.facts.specs.SumsLaws.{sum_ext}
use Rattle.facts.specs.Filled.{filled}
use Rattle.facts.specs.FilledLaws.{get_d_filled}
use Rattle.words.specs.Words.{word, with_word, field_fits, gathered, with_field}
use Rattle.words.specs.WordsLaws.{length_with_word, word_with_word_same, word_with_word_other}
use Rattle.words.specs.FieldsLaws.{field_of, fits_yes, gathered_with_field, length_with_field, word_with_field_other}
use Rattle.table.specs.Table.{Table, table_of, at, first_row, rows}
use Rattle.table.specs.TableLaws.{Checked}
use Rattle.rack.specs.Layouts.{table_bytes, tasks_in, task_field, rows_in, row_field, table_in, with_table}
use Rattle.boundary.specs.FieldsHeld.{gathered_field}
use Rattle.boundary.specs.StateHeld.{zeros}

-- A list of zeros, one for each task that there is room for.
abbrev pub task_zeros : List ℕ
task_zeros = replicate 32 0

module _ (T : Table) (ok : Checked T) (l : List ℕ) (size : length l ≡ table_bytes) where
  abbrev t : ℕ
  t = T.tasks

  abbrev r : ℕ
  r = rows T

  -- The list after each word and each field.
  abbrev l₁ : List ℕ
  l₁ = with_word l 0 T.processors

  abbrev l₂ : List ℕ
  l₂ = with_word l₁ 1 t

  abbrev l₃ : List ℕ
  l₃ = with_field l₂ 2 3 t T.period

  abbrev l₄ : List ℕ
  l₄ = with_field l₃ 3 3 t T.deadline

  abbrev l₅ : List ℕ
  l₅ = with_field l₄ 4 3 t T.steps

  abbrev l₆ : List ℕ
  l₆ = with_field l₅ 98 3 r T.processor

  abbrev l₇ : List ℕ
  l₇ = with_field l₆ 99 3 r T.priority

  abbrev l₈ : List ℕ
  l₈ = with_field l₇ 100 3 r T.time

  size₁ : length l₁ ≡ table_bytes
  size₁ = length_with_word l 0 T.processors ∙ size

  size₂ : length l₂ ≡ table_bytes
  size₂ = length_with_word l₁ 1 t ∙ size₁

  size₃ : length l₃ ≡ table_bytes
  size₃ = length_with_field l₂ 2 3 t T.period ∙ size₂

  size₄ : length l₄ ≡ table_bytes
  size₄ = length_with_field l₃ 3 3 t T.deadline ∙ size₃

  size₅ : length l₅ ≡ table_bytes
  size₅ = length_with_field l₄ 4 3 t T.steps ∙ size₄

  size₆ : length l₆ ≡ table_bytes
  size₆ = length_with_field l₅ 98 3 r T.processor ∙ size₅

  size₇ : length l₇ ≡ table_bytes
  size₇ = length_with_field l₆ 99 3 r T.priority ∙ size₆

  size₈ : length l₈ ≡ table_bytes
  size₈ = length_with_field l₇ 100 3 r T.time ∙ size₇

  -- The fields stand within the list.
  task_fits : (m : List ℕ) → length m ≡ table_bytes → (from : ℕ) → from ≤ 4 → (numbers : List ℕ) → t ≤ length numbers → field_fits m from 3 t numbers ≡ true
  task_fits m is from near numbers room = fits_yes m from 3 t numbers (field_of m from 3 t (λ i lt. omega (arith, ok.tasks_most))) room

  row_fits : (m : List ℕ) → length m ≡ table_bytes → (from : ℕ) → from ≤ 100 → (numbers : List ℕ) → r ≤ length numbers → field_fits m from 3 r numbers ≡ true
  row_fits m is from near numbers room = fits_yes m from 3 r numbers (field_of m from 3 r (λ i lt. omega (arith, ok.rows_most))) room

  -- The words of the counts stay while the fields are set.
  count_stays : (k : ℕ) → k < 2 → word l₈ k ≡ word l₂ k
  count_stays k near =
      word_with_field_other l₇ 100 3 r T.time k (λ i lt e. omega arith)
      ∙ word_with_field_other l₆ 99 3 r T.priority k (λ i lt e. omega arith)
      ∙ word_with_field_other l₅ 98 3 r T.processor k (λ i lt e. omega arith)
      ∙ word_with_field_other l₄ 4 3 t T.steps k (λ i lt e. omega arith)
      ∙ word_with_field_other l₃ 3 3 t T.deadline k (λ i lt e. omega arith)
      ∙ word_with_field_other l₂ 2 3 t T.period k (λ i lt e. omega arith)

  processors_read : word l₈ 0 ≡ T.processors
  processors_read =
      count_stays 0 (omega arith)
      ∙ word_with_word_other l₁ 1 0 t (λ e. omega arith)
      ∙ word_with_word_same l 0 T.processors (omega arith) (omega (arith, ok.processors_most))

  tasks_read : word l₈ 1 ≡ t
  tasks_read = count_stays 1 (omega arith) ∙ word_with_word_same l₁ 1 t (omega (arith, size₁)) (omega (arith, ok.tasks_most))

  -- A task's field stays while the rows' fields are set.
  task_stays : (from : ℕ) → from ≤ 4 → gathered l₈ from 3 t task_zeros ≡ gathered l₅ from 3 t task_zeros
  task_stays from near =
      gathered_field l₇ 100 3 r T.time from 3 t task_zeros (λ i j li lj e. omega (arith, ok.tasks_most))
      ∙ gathered_field l₆ 99 3 r T.priority from 3 t task_zeros (λ i j li lj e. omega (arith, ok.tasks_most))
      ∙ gathered_field l₅ 98 3 r T.processor from 3 t task_zeros (λ i j li lj e. omega (arith, ok.tasks_most))

  room_of_tasks : t ≤ length task_zeros
  room_of_tasks = omega (arith, length-replicate {A = ℕ} 32 0, ok.tasks_most)

  room_of_rows : r ≤ length zeros
  room_of_rows = omega (arith, length-replicate {A = ℕ} 128 0, ok.rows_most)

  steps_read : gathered l₈ 4 3 t task_zeros ≡ filled (at T.steps) t task_zeros
  steps_read =
      task_stays 4 (omega arith)
      ∙ gathered_with_field l₄ 4 3 t T.steps task_zeros (task_fits l₄ size₄ 4 (omega arith) T.steps ok.tasks.long.three)
      room_of_tasks (omega arith) (λ i lt. omega (arith, (ok.tasks.each i lt).steps_most))

  deadline_read : gathered l₈ 3 3 t task_zeros ≡ filled (at T.deadline) t task_zeros
  deadline_read =
      task_stays 3 (omega arith)
      ∙ gathered_field l₄ 4 3 t T.steps 3 3 t task_zeros (λ i j li lj e. omega arith)
      ∙ gathered_with_field l₃ 3 3 t T.deadline task_zeros (task_fits l₃ size₃ 3 (omega arith) T.deadline ok.tasks.long.two)
      room_of_tasks (omega arith) (λ i lt. omega (arith, (ok.tasks.each i lt).deadline_most))

  period_read : gathered l₈ 2 3 t task_zeros ≡ filled (at T.period) t task_zeros
  period_read =
      task_stays 2 (omega arith)
      ∙ gathered_field l₄ 4 3 t T.steps 2 3 t task_zeros (λ i j li lj e. omega arith)
      ∙ gathered_field l₃ 3 3 t T.deadline 2 3 t task_zeros (λ i j li lj e. omega arith)
      ∙ gathered_with_field l₂ 2 3 t T.period task_zeros (task_fits l₂ size₂ 2 (omega arith) T.period ok.tasks.long.one)
      room_of_tasks (omega arith) (λ i lt. omega (arith, (ok.tasks.each i lt).period_most))

  time_read : gathered l₈ 100 3 r zeros ≡ filled (at T.time) r zeros
  time_read =
      gathered_with_field l₇ 100 3 r T.time zeros (row_fits l₇ size₇ 100 (omega arith) T.time ok.row_lists.three)
      room_of_rows (omega arith) (λ i lt. omega (arith, (ok.row i lt).time_most))

  priority_read : gathered l₈ 99 3 r zeros ≡ filled (at T.priority) r zeros
  priority_read =
      gathered_field l₇ 100 3 r T.time 99 3 r zeros (λ i j li lj e. omega arith)
      ∙ gathered_with_field l₆ 99 3 r T.priority zeros (row_fits l₆ size₆ 99 (omega arith) T.priority ok.row_lists.two)
      room_of_rows (omega arith) (λ i lt. omega (arith, (ok.row i lt).priority_most))

  processor_read : gathered l₈ 98 3 r zeros ≡ filled (at T.processor) r zeros
  processor_read =
      gathered_field l₇ 100 3 r T.time 98 3 r zeros (λ i j li lj e. omega arith)
      ∙ gathered_field l₆ 99 3 r T.priority 98 3 r zeros (λ i j li lj e. omega arith)
      ∙ gathered_with_field l₅ 98 3 r T.processor zeros (row_fits l₅ size₅ 98 (omega arith) T.processor ok.row_lists.one)
      room_of_rows (omega arith) (λ i lt. omega (arith, (ok.row i lt).processor_most, ok.processors_most))

  -- The list has room for as many tasks and rows as the table has.
  tasks_in_list : tasks_in l₈ ≡ t
  unfolding tasks_in
  tasks_in_list = rw tasks_read (omega (arith, ok.tasks_most))

  rows_are : sum t (at (filled (at T.steps) t task_zeros)) ≡ rows T
  unfolding rows first_row
  rows_are = sum_ext t {f = at (filled (at T.steps) t task_zeros)} {g = at T.steps} (λ i lt. get_d_filled (at T.steps) t i 0 task_zeros lt)

  rows_in_list : rows_in l₈ ≡ r
  unfolding rows_in task_field
  rows_in_list = rw (tasks_in_list, steps_read) (omega (arith, rows_are, ok.rows_most))

  -- The list stays of the layout's length,
  pub length_with_table : length (with_table T l) ≡ table_bytes
  unfolding with_table
  length_with_table = size₈

  -- and holds the table; what is no task and no row of it reads as 0.
  pub table_held :
      table_in (with_table T l)
      ≡ table_of T.processors T.tasks
      (filled (at T.period) T.tasks task_zeros) (filled (at T.deadline) T.tasks task_zeros) (filled (at T.steps) T.tasks task_zeros)
      (filled (at T.processor) (rows T) zeros) (filled (at T.priority) (rows T) zeros) (filled (at T.time) (rows T) zeros)
  unfolding with_table table_in task_field row_field
  table_held =
      rw (tasks_in_list, rows_in_list, processors_read, tasks_read, period_read, deadline_read, steps_read, processor_read, priority_read, time_read)
