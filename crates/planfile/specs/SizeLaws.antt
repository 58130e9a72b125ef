-- How many bytes a line takes at most, and right lines together.
use Rattle.std.specs.Prelude.{ℕ, ◌+◌, ◌*◌, ◌^◌, ◌≤◌, ◌<◌, ◌≡◌, true, List, [], ◌∷◌, length, get_or}
use Rattle.std.proofs.Common.{arith, length-append}
use Rattle.table.specs.Keys.{plan_key, processors_key, tasks_key, task_key, period_key, deadline_key, steps_key, processor_key, priority_key, time_key, no_key}
use Rattle.table.specs.Ranges.{in_range, range_of, ranges}
use Rattle.table.specs.RangesLaws.{within_of}
use Rattle.table.specs.Table.{Table}
use Rattle.text.specs.NumeralLaws.{decimal_few}
use Rattle.lines.specs.Words.{words, word, line_of}
use Rattle.planfile.specs.Draft.{Draft, own, added, placed, following, advanced}
use Rattle.planfile.specs.DraftLaws.{Shape, entry_by_key, own_most, draft_of, after_row}
use Rattle.lines.specs.KeyLaws.{EachKey, by_key, none_in_range}
use Rattle.lines.specs.LineTextLaws.{length_line_of}
use Rattle.planfile.specs.LinesLaws.{lines_shape}
use Rattle.planfile.specs.Verdicts.{RightLines}
use Rattle.planfile.specs.Verdicts.RightLines.{none, more}

-- The digits of the greatest value of each key.
unfoldable pub most_digits : ℕ → ℕ
most_digits key = get_or (1 ∷ 2 ∷ 2 ∷ 2 ∷ 7 ∷ 9 ∷ 2 ∷ 2 ∷ 3 ∷ 7 ∷ []) key 1

-- The bytes of the longest line of each key.
unfoldable pub most_line : ℕ → ℕ
most_line key = length (word key) + most_digits key + 2

-- A value in its range takes so many digits, and they are 1 to 9.
abbrev Takes : ℕ → Type 0
Takes key = (n v : ℕ) → n ≤ 33 → in_range key n v ≡ true → (v < 10 ^ 9) × (v < 10 ^ most_digits key) × (0 < most_digits key)

takes : EachKey Takes
unfolding most_digits range_of ranges
takes = record {
  plan = λ n v h r. omega (arith, within_of plan_key n v r);
  processors = λ n v h r. omega (arith, within_of processors_key n v r);
  tasks = λ n v h r. omega (arith, within_of tasks_key n v r);
  task = λ n v h r. omega (arith, within_of task_key n v r);
  period = λ n v h r. omega (arith, within_of period_key n v r);
  deadline = λ n v h r. omega (arith, within_of deadline_key n v r);
  steps = λ n v h r. omega (arith, within_of steps_key n v r);
  processor = λ n v h r. omega (arith, within_of processor_key n v r);
  priority = λ n v h r. omega (arith, within_of priority_key n v r);
  time = λ n v h r. omega (arith, within_of time_key n v r);
  none = λ key l n v h r. absurd (none_in_range key n v l r);
}

pub value_takes :
    (key n v : ℕ) → n ≤ 33 → in_range key n v ≡ true
    → (v < 10 ^ 9) × (v < 10 ^ most_digits key) × (0 < most_digits key)
value_takes key = by_key takes key

pub line_most : (key n v : ℕ) → n ≤ 33 → in_range key n v ≡ true → length (line_of key v) ≤ most_line key
unfolding most_line
line_most key n v h r =
    let w = value_takes key n v h r in
    omega (arith, length_line_of key v, decimal_few (most_digits key) v w.2 w.1)

-- The most bytes that a draft's lines take: 30 for the first three, 51 for each task and 39 for each row, and those of the
-- task or row that is given.
unfoldable pub bytes_so_far : Draft → ℕ
bytes_so_far d =
    entry_by_key (0 ∷ 7 ∷ 21 ∷ 30 ∷ 38 ∷ 53 ∷ 72 ∷ 30 ∷ 43 ∷ 56 ∷ 30 ∷ []) d + 51 * length d.table.steps
    + 39 * length d.table.time

abbrev Grows : ℕ → Type 0
Grows key =
    (T : Table) (v : ℕ) → key < no_key
    → bytes_so_far (draft_of key T) + most_line key ≡ bytes_so_far (advanced (draft_of key T) v)

grows_time : Grows time_key
unfolding bytes_so_far most_line most_digits word words advanced placed added
grows_time T v h =
    let one_more = length-append T.time (v ∷ []) in
    after_row (placed time_key v T)
    (λ key. bytes_so_far (draft_of time_key T) + most_line time_key ≡ bytes_so_far (draft_of key (placed time_key v T)))
    (λ r. omega arith) (λ r t. omega arith) (λ r t. omega arith)

grows : EachKey Grows
unfolding bytes_so_far most_line most_digits word words advanced placed added following
grows = record {
  plan = λ T v h. omega arith;
  processors = λ T v h. omega arith;
  tasks = λ T v h. omega arith;
  task = λ T v h. omega arith;
  period = λ T v h. omega arith;
  deadline = λ T v h. omega arith;
  steps = λ T v h. omega (arith, length-append T.steps (v ∷ []));
  processor = λ T v h. omega arith;
  priority = λ T v h. omega arith;
  time = grows_time;
  none = λ key l T v h. absurd (omega arith);
}

-- Right lines take no more.
pub lines_bytes : (file : List ℕ) {k place : ℕ} {d : Draft} → RightLines file k place d → place ≤ bytes_so_far d
lines_bytes file none = omega arith
lines_bytes file (more {d = d} value behind before line) =
    let s = lines_shape file before in
    let h : d.key < no_key = omega (arith, s.key_most, line.due) in
    omega (
      arith,
      lines_bytes file before,
      line.stands.ends,
      line_most d.key (own d) value (own_most d s) line.within,
      by_key grows d.key d.table value h,
    )

-- A whole table's lines, of at most 32 tasks and 128 rows, take at most 6,654.
pub whole_bytes : (T : Table) → Shape (draft_of no_key T) → bytes_so_far (draft_of no_key T) ≤ 6654
unfolding bytes_so_far
whole_bytes T s = omega arith
