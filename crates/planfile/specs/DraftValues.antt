-- The values that right lines have brought are in their ranges, and those of a whole file make a plan.
use Rattle.std.specs.Prelude.{ℕ, ◌<◌, ◌≡◌, true, false, cond, List, [], ◌∷◌, ◌++◌, length}
use Rattle.std.proofs.Math.Path.{refl}
use Rattle.std.proofs.Math.Bool.{Bool}
use Rattle.std.proofs.Common.{arith, eqb-true, length-append}
use Rattle.std.proofs.Math.Decide.{dec_lt}
use Rattle.std.proofs.Math.Dec.{eqb}
use Rattle.std.proofs.Math.ListN.{get_or-append}
use Rattle.std.proofs.lemmas.List.{get_or_at}
use Rattle.table.specs.Keys.{processors_key, tasks_key, period_key, deadline_key, steps_key, processor_key, priority_key, time_key}
use Rattle.table.specs.Ranges.{in_range, range_of}
use Rattle.table.specs.Table.{Table, at}
use Rattle.planfile.specs.Draft.{Draft, blank, own, added, placed, advanced}
use Rattle.planfile.specs.DraftLaws.{Shape, draft_of, due_there}
use Rattle.planfile.specs.PlanValues.{InRange}
use Rattle.planfile.specs.FrontLaws.{count_next}

pub record ValuesSoFar (d : Draft) : Type 0 where
  pub processors : processors_key < d.key → in_range processors_key 0 d.table.processors ≡ true
  pub tasks : tasks_key < d.key → in_range tasks_key 0 d.table.tasks ≡ true
  pub period : InRange (length d.table.period) period_key 0 d.table.period
  pub deadline : InRange (length d.table.deadline) deadline_key 0 d.table.deadline
  pub steps : InRange (length d.table.steps) steps_key 0 d.table.steps
  pub processor : InRange (length d.table.processor) processor_key d.table.processors d.table.processor
  pub priority : InRange (length d.table.priority) priority_key 0 d.table.priority
  pub time : InRange (length d.table.time) time_key 0 d.table.time

pub values_blank : ValuesSoFar blank
unfolding blank
values_blank = record {
  processors = λ h. absurd (omega arith);
  tasks = λ h. absurd (omega arith);
  period = λ i h. absurd (omega arith);
  deadline = λ i h. absurd (omega arith);
  steps = λ i h. absurd (omega arith);
  processor = λ i h. absurd (omega arith);
  priority = λ i h. absurd (omega arith);
  time = λ i h. absurd (omega arith);
}

-- A value in the range is added to a list of such.
in_added :
    (b : Bool) (key own v : ℕ) (l : List ℕ) → (b ≡ true → in_range key own v ≡ true) → InRange (length l) key own l
    → InRange (length (added b v l)) key own (added b v l)
unfolding added
in_added false key own v l h r = r
in_added true key own v l h r = λ i g. go i g (dec_lt i (length l))
  where
    go : (i : ℕ) → i < length (l ++ (v ∷ [])) → Dec (i < length l) → in_range key own (at (l ++ (v ∷ [])) i) ≡ true
    go i g (yes q) = rw (get_or-append l (v ∷ []) 0 i q) (r i q)
    go i g (no q) =
        let e : length l ≡ i = omega (arith, length-append l (v ∷ [])) in
        rw (get_or_at l v [] 0 i e) (h refl)

-- Before the processors are known there are no rows.
no_rows : (T : Table) → Shape (draft_of processors_key T) → length T.processor ≡ 0
no_rows T s = omega arith

module _ (d : Draft) (v : ℕ) (r : in_range d.key (own d) v ≡ true) where
  -- The line due is of this key.
  due : (key : ℕ) → d.key ≡ key → in_range key (own (draft_of key d.table)) v ≡ true
  due key e = rw e at r

  -- The rows' processors are in the range of the plan's, which are known before the first row.
  processor_next :
      Shape d → InRange (length d.table.processor) processor_key d.table.processors d.table.processor
      → let next = added (eqb d.key processor_key) v d.table.processor in
      InRange (length next) processor_key (cond (eqb d.key processors_key) v d.table.processors) next
  unfolding own
  processor_next s old = go (eqb d.key processors_key) refl
    where
      b : Bool
      b = eqb d.key processor_key

      next : List ℕ
      next = added b v d.table.processor

      go : (t : Bool) → eqb d.key processors_key ≡ t → InRange (length next) processor_key (cond t v d.table.processors) next
      go true t =
          let e = eqb-true d.key processors_key t in
          let none = no_rows d.table (due_there Shape d processors_key e s) in
          in_added b processor_key v v _ (λ u. absurd (omega (arith, e, eqb-true d.key processor_key u)))
          (λ i h. absurd (omega arith))
      go false t = in_added b processor_key d.table.processors v _ (λ u. due processor_key (eqb-true _ _ u)) old

  pub values_next : Shape d → ValuesSoFar d → ValuesSoFar (advanced d v)
  unfolding advanced placed in_range range_of
  values_next s old = record {
    processors =
        count_next (λ n. in_range processors_key 0 n ≡ true) processors_key d.key v _ _ (omega arith) (due processors_key)
        old.processors;
    tasks = count_next (λ n. in_range tasks_key 0 n ≡ true) tasks_key d.key v _ _ (omega arith) (due tasks_key) old.tasks;
    period = in_added (eqb d.key period_key) period_key 0 v _ (λ u. due period_key (eqb-true _ _ u)) old.period;
    deadline = in_added (eqb d.key deadline_key) deadline_key 0 v _ (λ u. due deadline_key (eqb-true _ _ u)) old.deadline;
    steps = in_added (eqb d.key steps_key) steps_key 0 v _ (λ u. due steps_key (eqb-true _ _ u)) old.steps;
    processor = processor_next s old.processor;
    priority = in_added (eqb d.key priority_key) priority_key 0 v _ (λ u. due priority_key (eqb-true _ _ u)) old.priority;
    time = in_added (eqb d.key time_key) time_key 0 v _ (λ u. due time_key (eqb-true _ _ u)) old.time;
  }
