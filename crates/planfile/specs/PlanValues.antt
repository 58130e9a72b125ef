-- What the test "is a plan" says, value by value in the test's own words, and that this is all it asks.
use Rattle.std.specs.Prelude.{ℕ, ◌≤◌, ◌<◌, ◌≡◌, Bool, true, ◌&&◌, List, leb}
use Rattle.std.proofs.Common.{leb-true, le-leb}
use Rattle.facts.specs.Tests.{all}
use Rattle.facts.specs.TestsLaws.{and_left, and_right, and_true, all_at, all_of}
use Rattle.table.specs.Keys.{processors_key, tasks_key, period_key, deadline_key, steps_key, processor_key, priority_key, time_key}
use Rattle.table.specs.Ranges.{in_range, range_of, ranges}
use Rattle.table.specs.Table.{Table, at, rows, most_rows, entry_right, long_enough, entries_right, is_plan}
use Rattle.table.specs.TableLaws.{Long, long_of, long_true}

-- Entry i of the list is in the range of the key, for each i below n.
abbrev pub InRange : ℕ → ℕ → ℕ → List ℕ → Type 0
InRange n key own l = (i : ℕ) → i < n → in_range key own (at l i) ≡ true

pub record ValuesRight (T : Table) : Type 0 where
  pub processors : in_range processors_key 0 T.processors ≡ true
  pub tasks : in_range tasks_key 0 T.tasks ≡ true
  pub task_lists : Long T.tasks T.period T.deadline T.steps
  pub period : InRange T.tasks period_key 0 T.period
  pub deadline : InRange T.tasks deadline_key 0 T.deadline
  pub steps : InRange T.tasks steps_key 0 T.steps
  pub few : rows T ≤ most_rows
  pub row_lists : Long (rows T) T.processor T.priority T.time
  pub processor : InRange (rows T) processor_key T.processors T.processor
  pub priority : InRange (rows T) priority_key 0 T.priority
  pub time : InRange (rows T) time_key 0 T.time

-- Tests that pass together pass each.
both : (a b : Bool) → a && b ≡ true → (a ≡ true) × (b ≡ true)
both a b e = (and_left a b e, and_right a b e)

three : (a b c : Bool) → a && (b && c) ≡ true → (a ≡ true) × (b ≡ true) × (c ≡ true)
three a b c e = let r = both b c (and_right a (b && c) e) in (and_left a (b && c) e, r.0, r.1)

module _ (T : Table) where
  task_tests :
      all T.tasks (λ i. entry_right period_key 0 (at T.period i) (at T.deadline i) (at T.steps i)) ≡ true → (i : ℕ) → i < T.tasks
      → (in_range period_key 0 (at T.period i) ≡ true) × (in_range deadline_key 0 (at T.deadline i) ≡ true)
      × (in_range steps_key 0 (at T.steps i) ≡ true)
  unfolding entry_right
  task_tests e i l =
      three (in_range period_key 0 (at T.period i)) (in_range deadline_key 0 (at T.deadline i)) (in_range steps_key 0 (at T.steps i))
      (all_at T.tasks _ e i l)

  row_tests :
      all (rows T) (λ r. entry_right processor_key T.processors (at T.processor r) (at T.priority r) (at T.time r)) ≡ true
      → (r : ℕ) → r < rows T
      → (in_range processor_key T.processors (at T.processor r) ≡ true) × (in_range priority_key 0 (at T.priority r) ≡ true)
      × (in_range time_key 0 (at T.time r) ≡ true)
  unfolding entry_right in_range range_of ranges
  row_tests e r l =
      three (in_range processor_key T.processors (at T.processor r)) (in_range priority_key 0 (at T.priority r))
      (in_range time_key 0 (at T.time r)) (all_at (rows T) _ e r l)

pub values_right : (T : Table) → is_plan T ≡ true → ValuesRight T
unfolding is_plan entries_right
values_right T e =
    let a = both (in_range processors_key 0 T.processors) _ e in
    let b = both (in_range tasks_key 0 T.tasks) _ a.1 in
    let c = both (entries_right T.tasks period_key 0 T.period T.deadline T.steps) _ b.1 in
    let d = both (leb (rows T) most_rows) _ c.1 in
    let t = both (long_enough T.tasks T.period T.deadline T.steps) _ c.0 in
    let r = both (long_enough (rows T) T.processor T.priority T.time) _ d.1 in
    record {
      processors = a.0;
      tasks = b.0;
      task_lists = long_of _ _ _ _ t.0;
      period = λ i l. (task_tests T t.1 i l).0;
      deadline = λ i l. (task_tests T t.1 i l).1;
      steps = λ i l. (task_tests T t.1 i l).2;
      few = leb-true _ _ d.0;
      row_lists = long_of _ _ _ _ r.0;
      processor = λ i l. (row_tests T r.1 i l).0;
      priority = λ i l. (row_tests T r.1 i l).1;
      time = λ i l. (row_tests T r.1 i l).2;
    }

pub is_plan_when_right : (T : Table) → ValuesRight T → is_plan T ≡ true
unfolding is_plan entries_right entry_right in_range range_of ranges
is_plan_when_right T v =
    and_true v.processors (and_true v.tasks (and_true tasks_pass (and_true (le-leb _ _ v.few) rows_pass)))
  where
    tasks_pass : entries_right T.tasks period_key 0 T.period T.deadline T.steps ≡ true
    tasks_pass =
        and_true (long_true _ _ _ _ v.task_lists)
        (all_of T.tasks (λ i. entry_right period_key 0 (at T.period i) (at T.deadline i) (at T.steps i))
        (λ i l. and_true (v.period i l) (and_true (v.deadline i l) (v.steps i l))))

    rows_pass : entries_right (rows T) processor_key T.processors T.processor T.priority T.time ≡ true
    rows_pass =
        and_true (long_true _ _ _ _ v.row_lists)
        (all_of (rows T) (λ r. entry_right processor_key T.processors (at T.processor r) (at T.priority r) (at T.time r))
        (λ i l. and_true (v.processor i l) (and_true (v.priority i l) (v.time i l))))
