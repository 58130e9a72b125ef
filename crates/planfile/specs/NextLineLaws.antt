-- The next line of a plan, from a draft that is a part of it: its value is in its range, and with it the draft is a part still.
use Rattle.std.specs.Prelude.{ℕ, suc, ◌+◌, ◌≤◌, ◌<◌, ◌≡◌, Bool, ◌&&◌, List, [], ◌∷◌}
use Rattle.std.proofs.Math.Path.{refl}
use Rattle.std.proofs.Common.{sym, ◌∙◌, ap, get_or-take}
use Rattle.std.proofs.Math.Bool.{true, false}
use native.Mathlib.Omega.{arith}
use borrow.Author.Tests.{eqb-true, le-ltb}
use Rattle.std.proofs.Math.Dec.{eqb, ltb}
use Rattle.std.proofs.Math.ListN.{length}
use Rattle.facts.specs.SumsLaws.{sum_ext}
use Rattle.table.specs.Keys.{processors_key, tasks_key, task_key, period_key, deadline_key, steps_key, processor_key, priority_key, time_key, no_key}
use Rattle.table.specs.Ranges.{in_range, range_of, ranges}
use Rattle.table.specs.RangesLaws.{in_range_of}
use Rattle.table.specs.Table.{Table, at, first_row, rows, most_rows}
use Rattle.table.specs.PlanLaws.{first_row_suc, first_row_mono}
use Rattle.planfile.specs.Draft.{Draft, rows_asked, own, added, placed, advanced}
use Rattle.planfile.specs.DraftLaws.{Shape, entry_by_key, draft_of, where_due}
use Rattle.lines.specs.KeyLaws.{EachKey, by_key}
use Rattle.planfile.specs.File.{value_for}
use Rattle.planfile.specs.Reading.{too_many}
use Rattle.planfile.specs.PlanValues.{ValuesRight}
use Rattle.planfile.specs.FrontLaws.{PartOf, Front, front_more, count_next}

-- The next number is in the range of `task`.
same_number : (n : ℕ) → in_range task_key n n ≡ true
unfolding range_of
same_number n = in_range_of task_key n n (omega arith)

-- A front has the list's entries,
pub front_at : (l m : List ℕ) → Front l m → (i : ℕ) → i < length l → at l i ≡ at m i
front_at l m e i h = ap (λ (t : List ℕ). at t i) (sym e) ∙ get_or-take (length l) m i 0 h

-- so the rows that the first tasks ask for are the table's.
pub asked_part : (T : Table) (d : Draft) → PartOf T d → rows_asked d.table ≡ first_row T (length d.table.steps)
unfolding rows_asked first_row
asked_part T d p = sum_ext (length d.table.steps) (λ i h. front_at _ _ p.steps i h)

module _ (T : Table) (ok : ValuesRight T) where
  -- What is still to come of the table: a task where one is due, and a row where one is due.
  pub record Ahead (d : Draft) : Type 0 where
    pub task : length d.table.steps + entry_by_key (0 ∷ 0 ∷ 0 ∷ 1 ∷ 1 ∷ 1 ∷ 1 ∷ 0 ∷ 0 ∷ 0 ∷ 0 ∷ []) d ≤ T.tasks
    pub row : length d.table.time + entry_by_key (0 ∷ 0 ∷ 0 ∷ 0 ∷ 0 ∷ 0 ∷ 0 ∷ 1 ∷ 1 ∷ 1 ∷ 0 ∷ []) d ≤ rows T

  pub ahead : (d : Draft) → Shape d → PartOf T d → tasks_key < d.key → Ahead d
  unfolding rows
  ahead d s p h =
      let n = p.tasks h in
      record {
        task = omega arith;
        row = omega (arith, asked_part T d p, first_row_mono T (length d.table.steps) T.tasks (omega arith));
      }

  -- The table's value for the key due is in its range.
  abbrev Fits : ℕ → Type 0
  Fits key =
      key < no_key → (t : Table) → Shape (draft_of key t) → PartOf T (draft_of key t)
      → in_range key (own (draft_of key t)) (value_for T (draft_of key t)) ≡ true

  fits : EachKey Fits
  unfolding value_for own in_range range_of ranges
  fits = record {
    plan = λ l t s p. refl;
    processors = λ l t s p. ok.processors;
    tasks = λ l t s p. ok.tasks;
    task = λ l t s p. same_number (length t.steps + 1);
    period = λ l t s p. ok.period (length t.period) (omega (arith, ahead _ s p (omega arith)));
    deadline = λ l t s p. ok.deadline (length t.deadline) (omega (arith, ahead _ s p (omega arith)));
    steps = λ l t s p. ok.steps (length t.steps) (omega (arith, ahead _ s p (omega arith)));
    processor = λ l t s p. (let h = ahead _ s p (omega arith) in rw (p.processors (omega arith)) (ok.processor (length t.processor) (omega arith)));
    priority = λ l t s p. ok.priority (length t.priority) (omega (arith, ahead _ s p (omega arith)));
    time = λ l t s p. ok.time (length t.time) (omega (arith, ahead _ s p (omega arith)));
    none = λ key h l t s p. absurd (omega arith);
  }

  pub value_fits : (d : Draft) → Shape d → PartOf T d → d.key < no_key → in_range d.key (own d) (value_for T d) ≡ true
  value_fits d s p h = by_key fits d.key h d.table s p

  module _ (d : Draft) (s : Shape d) (p : PartOf T d) where
    -- What holds where this key is due.
    abbrev Due : (Draft → Type 0) → Draft → Type 0
    Due Q c = Shape c → PartOf T c → Q c

    at_key : (Q : Draft → Type 0) (key : ℕ) → d.key ≡ key → Due Q (draft_of key d.table) → Q d
    at_key Q key e f = where_due (Due Q) d key e f s p

    -- The value does not bring the rows above 128.
    few_rows : d.key ≡ steps_key → rows_asked d.table + value_for T d ≤ most_rows
    unfolding rows value_for
    few_rows e =
        at_key (λ c. rows_asked c.table + value_for T c ≤ most_rows) steps_key e (λ s p. (
        let n = length d.table.steps in
        omega (
          arith,
          ok.few,
          asked_part T _ p,
          first_row_suc T n,
          first_row_mono T (suc n) T.tasks (omega (arith, ahead _ s p (omega arith))),
        )))

    pub value_few : too_many d (value_for T d) ≡ false
    unfolding too_many
    value_few = go (eqb d.key steps_key) refl
      where
        go : (t : Bool) → eqb d.key steps_key ≡ t → t && ltb most_rows (rows_asked d.table + value_for T d) ≡ false
        go true t = le-ltb _ _ (few_rows (eqb-true _ _ t))
        go false t = refl

    -- The value is the list's next entry.
    abbrev Next : (Table → List ℕ) → Draft → Type 0
    Next list c = (value_for T c ≡ at (list T) (length (list c.table))) × (length (list c.table) < length (list T))

    list_next :
        (list : Table → List ℕ) (key : ℕ) → Due (Next list) (draft_of key d.table)
        → Front (list d.table) (list T) → Front (added (eqb d.key key) (value_for T d) (list d.table)) (list T)
    list_next list key f front = front_more (eqb d.key key) _ _ _ (λ u. at_key (Next list) key (eqb-true _ _ u) f) front

    count_is : (c x : ℕ) → value_for T (draft_of c d.table) ≡ x → d.key ≡ c → value_for T d ≡ x
    count_is c x e k = ap (λ (n : ℕ). value_for T (draft_of n d.table)) k ∙ e

    -- With the line of the value the draft is a part still.
    pub part_next : PartOf T (advanced d (value_for T d))
    unfolding advanced placed value_for
    part_next =
        let tasks = ok.task_lists in
        let rows = ok.row_lists in
        record {
          processors =
              count_next (λ n. n ≡ T.processors) processors_key d.key _ _ _ (omega arith) (count_is processors_key _ refl) p.processors;
          tasks = count_next (λ n. n ≡ T.tasks) tasks_key d.key _ _ _ (omega arith) (count_is tasks_key _ refl) p.tasks;
          period = list_next (λ t. t.period) period_key (λ s p. (refl, omega (arith, ahead _ s p (omega arith)))) p.period;
          deadline = list_next (λ t. t.deadline) deadline_key (λ s p. (refl, omega (arith, ahead _ s p (omega arith)))) p.deadline;
          steps = list_next (λ t. t.steps) steps_key (λ s p. (refl, omega (arith, ahead _ s p (omega arith)))) p.steps;
          processor = list_next (λ t. t.processor) processor_key (λ s p. (refl, omega (arith, ahead _ s p (omega arith)))) p.processor;
          priority = list_next (λ t. t.priority) priority_key (λ s p. (refl, omega (arith, ahead _ s p (omega arith)))) p.priority;
          time = list_next (λ t. t.time) time_key (λ s p. (refl, omega (arith, ahead _ s p (omega arith)))) p.time;
        }
