-- What the test "is a plan" says of a table.
use Rattle.std.specs.Prelude.{ℕ, ◌≤◌, ◌<◌, ◌≡◌, Bool, true, ◌&&◌, List, leb, length}
use Rattle.std.proofs.Common.{leb-true, le-leb}
use Rattle.facts.specs.TestsLaws.{and_left, and_right, and_true, all_at}
use Rattle.table.specs.Keys.{processors_key, tasks_key, period_key, deadline_key, steps_key, processor_key, priority_key, time_key}
use Rattle.table.specs.Ranges.{in_range, range_of, ranges}
use Rattle.table.specs.RangesLaws.{Within, within_of}
use Rattle.table.specs.Table.{Table, at, rows, most_rows, entry_right, long_enough, entries_right, is_plan}

-- The three lists have n entries at least.
pub record Long (n : ℕ) (a b c : List ℕ) : Type 0 where
  pub one : n ≤ length a
  pub two : n ≤ length b
  pub three : n ≤ length c

pub long_of : (n : ℕ) (a b c : List ℕ) → long_enough n a b c ≡ true → Long n a b c
unfolding long_enough
long_of n a b c e =
    let r : leb n (length b) && leb n (length c) ≡ true = and_right (leb n (length a)) _ e in
    record {
      one = leb-true _ _ (and_left (leb n (length a)) _ e);
      two = leb-true _ _ (and_left (leb n (length b)) _ r);
      three = leb-true _ _ (and_right (leb n (length b)) _ r);
    }

pub long_true : (n : ℕ) (a b c : List ℕ) → Long n a b c → long_enough n a b c ≡ true
unfolding long_enough
long_true n a b c l = and_true (le-leb _ _ l.one) (and_true (le-leb _ _ l.two) (le-leb _ _ l.three))

-- The values of a task, and of a row, stand in their ranges.
pub record TaskWithin (period deadline steps : ℕ) : Type 0 where
  pub period_least : 1 ≤ period
  pub period_most : period ≤ 1000000
  pub deadline_most : deadline ≤ 160000000
  pub steps_least : 1 ≤ steps
  pub steps_most : steps ≤ 16

pub record RowWithin (processors processor priority time : ℕ) : Type 0 where
  pub processor_least : 1 ≤ processor
  pub processor_most : processor ≤ processors
  pub priority_least : 1 ≤ priority
  pub priority_most : priority ≤ 255
  pub time_least : 1 ≤ time
  pub time_most : time ≤ 1000000

pub task_within : (period deadline steps : ℕ) → entry_right period_key 0 period deadline steps ≡ true → TaskWithin period deadline steps
unfolding entry_right range_of ranges
task_within p d s e =
    let r : in_range deadline_key 0 d && in_range steps_key 0 s ≡ true = and_right (in_range period_key 0 p) _ e in
    let wp : Within period_key 0 p = within_of _ _ _ (and_left (in_range period_key 0 p) _ e) in
    let wd : Within deadline_key 0 d = within_of _ _ _ (and_left (in_range deadline_key 0 d) _ r) in
    let ws : Within steps_key 0 s = within_of _ _ _ (and_right (in_range deadline_key 0 d) _ r) in
    record {
      period_least = wp.least;
      period_most = wp.most;
      deadline_most = wd.most;
      steps_least = ws.least;
      steps_most = ws.most;
    }

pub row_within : (processors processor priority time : ℕ) → entry_right processor_key processors processor priority time ≡ true → RowWithin processors processor priority time
unfolding entry_right range_of ranges
row_within n p u t e =
    let r : in_range priority_key n u && in_range time_key n t ≡ true = and_right (in_range processor_key n p) _ e in
    let wp : Within processor_key n p = within_of _ _ _ (and_left (in_range processor_key n p) _ e) in
    let wu : Within priority_key n u = within_of _ _ _ (and_left (in_range priority_key n u) _ r) in
    let wt : Within time_key n t = within_of _ _ _ (and_right (in_range priority_key n u) _ r) in
    record {
      processor_least = wp.least;
      processor_most = wp.most;
      priority_least = wu.least;
      priority_most = wu.most;
      time_least = wt.least;
      time_most = wt.most;
    }

-- The lists have n tasks, all within their ranges.
pub record TasksWithin (n : ℕ) (period deadline steps : List ℕ) : Type 0 where
  pub long : Long n period deadline steps
  pub each : (i : ℕ) → i < n → TaskWithin (at period i) (at deadline i) (at steps i)

pub tasks_within : (n : ℕ) (period deadline steps : List ℕ) → entries_right n period_key 0 period deadline steps ≡ true → TasksWithin n period deadline steps
unfolding entries_right
tasks_within n p d s e = record {
  long = long_of n p d s (and_left (long_enough n p d s) _ e);
  each = λ i l. task_within _ _ _ (all_at n (λ i. entry_right period_key 0 (at p i) (at d i) (at s i)) (and_right (long_enough n p d s) _ e) i l);
}

-- What a table that is a plan keeps to.
pub record Checked (T : Table) : Type 0 where
  pub processors_least : 1 ≤ T.processors
  pub processors_most : T.processors ≤ 16
  pub tasks_least : 1 ≤ T.tasks
  pub tasks_most : T.tasks ≤ 32
  pub tasks : TasksWithin T.tasks T.period T.deadline T.steps
  pub rows_most : rows T ≤ 128
  pub row_lists : Long (rows T) T.processor T.priority T.time
  pub row : (r : ℕ) → r < rows T → RowWithin T.processors (at T.processor r) (at T.priority r) (at T.time r)

pub checked : (T : Table) → is_plan T ≡ true → Checked T
unfolding is_plan entries_right range_of ranges
checked T e =
    let wp : Within processors_key 0 T.processors = within_of _ _ _ (and_left (in_range processors_key 0 T.processors) _ e) in
    let e₁ = and_right (in_range processors_key 0 T.processors) _ e in
    let wt : Within tasks_key 0 T.tasks = within_of _ _ _ (and_left (in_range tasks_key 0 T.tasks) _ e₁) in
    let e₂ = and_right (in_range tasks_key 0 T.tasks) _ e₁ in
    let tr : Bool = entries_right T.tasks period_key 0 T.period T.deadline T.steps in
    let e₃ = and_right tr _ e₂ in
    let e₄ = and_right (leb (rows T) most_rows) _ e₃ in
    let long : Bool = long_enough (rows T) T.processor T.priority T.time in
    record {
      processors_least = wp.least;
      processors_most = wp.most;
      tasks_least = wt.least;
      tasks_most = wt.most;
      tasks = tasks_within _ _ _ _ (and_left tr _ e₂);
      rows_most = leb-true _ _ (and_left (leb (rows T) most_rows) _ e₃);
      row_lists = long_of _ _ _ _ (and_left long _ e₄);
      row = λ r l. row_within _ _ _ _ (all_at (rows T) (λ r. entry_right processor_key T.processors (at T.processor r) (at T.priority r) (at T.time r)) (and_right long _ e₄) r l);
    }
