-- The shape of a draft: how long its lists are while each key is due, and that each line keeps the shape.
use Rattle.std.specs.Prelude.{ℕ, suc, ◌+◌, ◌*◌, ◌≤◌, ◌<◌, ◌≡◌, refl, Bool, true, false, cond, List, [], ◌∷◌, ◌++◌, eqb, length, get_or}
use Rattle.std.proofs.Common.{sym, ◌∙◌, subst, arith, lt-ltb, le-ltb, ltb-false, length-append}
use Rattle.std.proofs.Math.Decide.{dec_lt}
use Rattle.std.proofs.Math.ListN.{get_or-append}
use Rattle.std.proofs.lemmas.List.{get_or_at}
use Rattle.facts.specs.Sums.{sum}
use Rattle.facts.specs.SumsLaws.{sum_more, sum_ext}
use Rattle.table.specs.Keys.{processors_key, tasks_key, task_key, steps_key, processor_key, time_key, no_key}
use Rattle.table.specs.Ranges.{in_range, range_of, ranges}
use Rattle.table.specs.RangesLaws.{within_of}
use Rattle.table.specs.Table.{Table, at, most_rows}
use Rattle.planfile.specs.Draft.{Draft, blank, rows_asked, own, added, placed, following, advanced}
use Rattle.planfile.specs.Reading.{too_many}
use Rattle.lines.specs.KeyLaws.{EachKey, by_key, none_in_range}

-- The draft of a key and a table.
abbrev pub draft_of : ℕ → Table → Draft
draft_of key T = record { key = key; table = T }

-- What holds where this key is due.
pub where_due : (Q : Draft → Type 0) (d : Draft) (key : ℕ) → d.key ≡ key → Q (draft_of key d.table) → Q d
where_due Q d key e q = subst (λ (k : ℕ). Q (draft_of k d.table)) (sym e) q

-- And the other way round.
pub due_there : (Q : Draft → Type 0) (d : Draft) (key : ℕ) → d.key ≡ key → Q d → Q (draft_of key d.table)
due_there Q d key e q = subst (λ (k : ℕ). Q (draft_of k d.table)) e q

-- How much longer or shorter a list is while each key is due, by the key's number from `plan` to none.
abbrev pub entry_by_key : List ℕ → Draft → ℕ
entry_by_key l d = get_or l d.key 0

-- The lists that are filled before a task's `steps` line, or a row's `time` line, are ahead of these by one entry once it is there.
pub record Shape (d : Draft) : Type 0 where
  pub key_most : d.key ≤ no_key
  pub period : length d.table.period ≡ length d.table.steps + entry_by_key (0 ∷ 0 ∷ 0 ∷ 0 ∷ 0 ∷ 1 ∷ 1 ∷ 0 ∷ 0 ∷ 0 ∷ 0 ∷ []) d
  pub deadline : length d.table.deadline ≡ length d.table.steps + entry_by_key (0 ∷ 0 ∷ 0 ∷ 0 ∷ 0 ∷ 0 ∷ 1 ∷ 0 ∷ 0 ∷ 0 ∷ 0 ∷ []) d
  pub processor : length d.table.processor ≡ length d.table.time + entry_by_key (0 ∷ 0 ∷ 0 ∷ 0 ∷ 0 ∷ 0 ∷ 0 ∷ 0 ∷ 1 ∷ 1 ∷ 0 ∷ []) d
  pub priority : length d.table.priority ≡ length d.table.time + entry_by_key (0 ∷ 0 ∷ 0 ∷ 0 ∷ 0 ∷ 0 ∷ 0 ∷ 0 ∷ 0 ∷ 1 ∷ 0 ∷ []) d
  -- The tasks: none before the first `task` line, fewer than the plan's while one is given, all behind the last line.
  pub processors_most : d.table.processors ≤ 16
  pub tasks_most : d.table.tasks ≤ 32
  pub task_due : length d.table.steps + entry_by_key (0 ∷ 0 ∷ 0 ∷ 1 ∷ 1 ∷ 1 ∷ 1 ∷ 0 ∷ 0 ∷ 0 ∷ 0 ∷ []) d ≤ d.table.tasks
  pub task_most : length d.table.steps ≤ entry_by_key (0 ∷ 0 ∷ 0 ∷ 31 ∷ 31 ∷ 31 ∷ 31 ∷ 32 ∷ 32 ∷ 32 ∷ 32 ∷ []) d
  pub task_left : d.table.tasks ≤ length d.table.steps + entry_by_key (32 ∷ 32 ∷ 32 ∷ 32 ∷ 32 ∷ 32 ∷ 32 ∷ 31 ∷ 31 ∷ 31 ∷ 0 ∷ []) d
  -- The rows: fewer than are asked for while one is given, else as many; at most 128, and none before the first `task` line.
  pub row_due : length d.table.time + entry_by_key (0 ∷ 0 ∷ 0 ∷ 0 ∷ 0 ∷ 0 ∷ 0 ∷ 1 ∷ 1 ∷ 1 ∷ 0 ∷ []) d ≤ rows_asked d.table
  pub row_most : rows_asked d.table ≤ most_rows
  pub row_none : rows_asked d.table ≤ entry_by_key (0 ∷ 0 ∷ 0 ∷ 128 ∷ 128 ∷ 128 ∷ 128 ∷ 128 ∷ 128 ∷ 128 ∷ 128 ∷ []) d
  pub row_left : rows_asked d.table ≤ length d.table.time + entry_by_key (0 ∷ 0 ∷ 0 ∷ 0 ∷ 0 ∷ 0 ∷ 0 ∷ 16 ∷ 16 ∷ 16 ∷ 0 ∷ []) d

-- The value of the line due is right: in its range, and not too many rows.
pub record Accepted (d : Draft) (v : ℕ) : Type 0 where
  pub range : in_range d.key (own d) v ≡ true
  pub rows : too_many d v ≡ false

pub shape_blank : Shape blank
unfolding blank rows_asked sum
shape_blank = omega arith

-- A `steps` line asks for so many rows more.
pub asked_more : (l : List ℕ) (v : ℕ) → sum (length (l ++ (v ∷ []))) (at (l ++ (v ∷ []))) ≡ sum (length l) (at l) + v
asked_more l v =
    let e : length (l ++ (v ∷ [])) ≡ length l + 1 = length-append l (v ∷ []) in
    rw e (sum_more (length l) (at (l ++ (v ∷ [])))
    ∙ omega (
      arith,
      sum_ext (length l) {f = at (l ++ (v ∷ []))} {g = at l} (λ i h. get_or-append l (v ∷ []) 0 i h),
      get_or_at l v [] 0 (length l) refl,
    ))

-- The plan's own number is small.
pub own_few : (b : Bool) (n m : ℕ) → n ≤ 32 → m ≤ 16 → cond b (n + 1) m ≤ 33
own_few true n m h g = omega arith
own_few false n m h g = omega arith

pub own_most : (d : Draft) → Shape d → own d ≤ 33
unfolding own
own_most d s =
    own_few (eqb d.key task_key) (length d.table.steps) d.table.processors (omega (arith, s.task_due, s.tasks_most)) s.processors_most

-- After a row's `time` line comes the task's next row, the next task, or nothing.
pub after_row :
    (T : Table) (P : ℕ → Type 0) → (length T.time < rows_asked T → P processor_key)
    → (rows_asked T ≤ length T.time → length T.steps < T.tasks → P task_key)
    → (rows_asked T ≤ length T.time → T.tasks ≤ length T.steps → P no_key) → P (following time_key T)
unfolding following
after_row T P row task none = go (dec_lt (length T.time) (rows_asked T)) (dec_lt (length T.steps) T.tasks)
  where
    go : Dec (length T.time < rows_asked T) → Dec (length T.steps < T.tasks) → P (following time_key T)
    go (yes r) t = rw (lt-ltb _ _ r) (row r)
    go (no r) (yes t) =
        let r' : rows_asked T ≤ length T.time = omega arith in
        rw (le-ltb _ _ r', lt-ltb _ _ t) (task r' t)
    go (no r) (no t) =
        let r' : rows_asked T ≤ length T.time = omega arith in
        let t' : T.tasks ≤ length T.steps = omega arith in
        rw (le-ltb _ _ r', le-ltb _ _ t') (none r' t')

-- The line of the key due keeps the shape.
abbrev Keeps : ℕ → Type 0
Keeps key =
    (T : Table) (v : ℕ) → Shape (draft_of key T) → Accepted (draft_of key T) v
    → Shape (advanced (draft_of key T) v)

keeps_time : Keeps time_key
unfolding advanced placed added rows_asked
keeps_time T v s a =
    let one_more = length-append T.time (v ∷ []) in
    after_row (placed time_key v T) (λ key. Shape (draft_of key (placed time_key v T)))
    (λ r. omega (arith, one_more)) (λ r t. omega (arith, one_more)) (λ r t. omega (arith, one_more))

keeps : EachKey Keeps
unfolding advanced placed added following range_of ranges rows_asked own too_many
keeps = record {
  plan = λ T v s a. omega arith;
  processors = λ T v s a. omega (arith, within_of processors_key T.processors v a.range);
  tasks = λ T v s a. omega (arith, within_of tasks_key T.processors v a.range);
  task = λ T v s a. omega arith;
  period = λ T v s a. omega (arith, length-append T.period (v ∷ []));
  deadline = λ T v s a. omega (arith, length-append T.deadline (v ∷ []));
  steps = λ T v s a. omega (arith, length-append T.steps (v ∷ []), asked_more T.steps v, ltb-false most_rows (rows_asked T + v) a.rows, within_of steps_key T.processors v a.range);
  processor = λ T v s a. omega (arith, length-append T.processor (v ∷ []));
  priority = λ T v s a. omega (arith, length-append T.priority (v ∷ []));
  time = keeps_time;
  none = λ key h T v s a. absurd (none_in_range key _ v h a.range);
}

pub shape_next : (d : Draft) (v : ℕ) → Shape d → Accepted d v → Shape (advanced d v)
shape_next d v s a = by_key keeps d.key d.table v s a

-- The lines that a draft has: three first, four for each task and three for each row, and those of the task or row that is given.
unfoldable pub lines_so_far : Draft → ℕ
lines_so_far d =
    entry_by_key (0 ∷ 1 ∷ 2 ∷ 3 ∷ 4 ∷ 5 ∷ 6 ∷ 3 ∷ 4 ∷ 5 ∷ 3 ∷ []) d + 4 * length d.table.steps + 3 * length d.table.time

abbrev Counts : ℕ → Type 0
Counts key =
    (T : Table) (v : ℕ) → key < no_key
    → lines_so_far (advanced (draft_of key T) v) ≡ suc (lines_so_far (draft_of key T))

counts_time : Counts time_key
unfolding lines_so_far advanced placed added
counts_time T v h =
    let one_more = length-append T.time (v ∷ []) in
    after_row (placed time_key v T) (λ key. lines_so_far (draft_of key (placed time_key v T)) ≡ suc (lines_so_far (draft_of time_key T)))
    (λ r. omega (arith, one_more)) (λ r t. omega (arith, one_more)) (λ r t. omega (arith, one_more))

-- Each line counts.
counts : EachKey Counts
unfolding lines_so_far advanced placed added following
counts = record {
  plan = λ T v h. omega arith;
  processors = λ T v h. omega arith;
  tasks = λ T v h. omega arith;
  task = λ T v h. omega arith;
  period = λ T v h. omega arith;
  deadline = λ T v h. omega arith;
  steps = λ T v h. omega (arith, length-append T.steps (v ∷ []));
  processor = λ T v h. omega arith;
  priority = λ T v h. omega arith;
  time = counts_time;
  none = λ key h T v l. absurd (omega arith);
}

pub lines_next : (d : Draft) (v : ℕ) → d.key < no_key → lines_so_far (advanced d v) ≡ suc (lines_so_far d)
lines_next d v h = by_key counts d.key d.table v h
