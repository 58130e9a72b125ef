-- A draft that is a table as far as it goes: from each line to the one before, and to the next.
use Rattle.std.specs.Prelude.{ℕ, suc, ◌+◌, ◌≤◌, ◌<◌, ◌≡◌, refl, Bool, true, false, cond, List, [], ◌∷◌, ◌++◌, eqb, length, get_or, take}
use Rattle.std.proofs.Math.Path.{sym}
use Rattle.std.proofs.Common.{◌∙◌, ap, add-one, eq-eqb, ne_eqb, length-append, take-take, take-suc, get_or-take}
use native.Mathlib.Omega.{arith, by_contra}
use Rattle.std.proofs.Math.Decide.{ℕ_discrete}
use Rattle.std.proofs.Math.Seq.{take-append_seam, take-length, get_or-append_seam}
use Rattle.table.specs.Keys.{plan_key, processors_key, tasks_key, task_key, period_key, deadline_key, steps_key, processor_key, priority_key, time_key}
use Rattle.table.specs.Ranges.{in_range, range_of, ranges}
use Rattle.table.specs.RangesLaws.{within_of}
use Rattle.table.specs.Table.{Table, at}
use Rattle.planfile.specs.Draft.{Draft, blank, own, added, placed, following, advanced}
use Rattle.planfile.specs.DraftLaws.{draft_of, after_row}
use Rattle.lines.specs.KeyLaws.{EachKey, by_key, none_in_range}
use Rattle.planfile.specs.File.{value_for}

-- The list l is the front of the list m.
abbrev pub Front : List ℕ → List ℕ → Type 0
Front l m = take (length l) m ≡ l

length_next : (l : List ℕ) (v : ℕ) → length (l ++ (v ∷ [])) ≡ suc (length l)
length_next l v = length-append l (v ∷ []) ∙ add-one (length l)

-- What is added to a front is the list's next entry.
pub front_last : (v : ℕ) (l m : List ℕ) → Front (l ++ (v ∷ [])) m → at m (length l) ≡ v
front_last v l m e =
    sym (get_or-take (length (l ++ (v ∷ []))) m (length l) 0 (omega (arith, length_next l v)))
    ∙ ap (λ (t : List ℕ). get_or t (length l) 0) e ∙ get_or-append_seam l v [] 0

front_less : (b : Bool) (v : ℕ) (l m : List ℕ) → Front (added b v l) m → Front l m
unfolding added
front_less false v l m e = e
front_less true v l m e =
    sym (take-take (length l) (length (l ++ (v ∷ []))) m (omega (arith, length_next l v)))
    ∙ ap (λ (t : List ℕ). take (length l) t) e ∙ take-append_seam l (v ∷ [])

pub front_more :
    (b : Bool) (v : ℕ) (l m : List ℕ) → (b ≡ true → (v ≡ at m (length l)) × (length l < length m)) → Front l m
    → Front (added b v l) m
unfolding added
front_more false v l m h e = e
front_more true v l m h e =
    let w = h refl in
    ap (λ (n : ℕ). take n m) (length_next l v) ∙ take-suc m (length l) 0 w.1
    ∙ ap (λ (t : List ℕ). t ++ (at m (length l) ∷ [])) e ∙ ap (λ (x : ℕ). l ++ (x ∷ [])) (sym w.0)

-- The draft is the table as far as its lines go: the counts are the table's once their lines are there, and each list is the
-- front of the table's.
pub record PartOf (T : Table) (d : Draft) : Type 0 where
  pub processors : processors_key < d.key → d.table.processors ≡ T.processors
  pub tasks : tasks_key < d.key → d.table.tasks ≡ T.tasks
  pub period : Front d.table.period T.period
  pub deadline : Front d.table.deadline T.deadline
  pub steps : Front d.table.steps T.steps
  pub processor : Front d.table.processor T.processor
  pub priority : Front d.table.priority T.priority
  pub time : Front d.table.time T.time

pub part_blank : (T : Table) → PartOf T blank
unfolding blank
part_blank T = record {
  processors = λ h. absurd (omega arith);
  tasks = λ h. absurd (omega arith);
  period = refl;
  deadline = refl;
  steps = refl;
  processor = refl;
  priority = refl;
  time = refl;
}

-- A whole table is a part of itself.
pub part_whole : (d : Draft) → PartOf d.table d
part_whole d = record {
  processors = λ h. refl;
  tasks = λ h. refl;
  period = take-length d.table.period;
  deadline = take-length d.table.deadline;
  steps = take-length d.table.steps;
  processor = take-length d.table.processor;
  priority = take-length d.table.priority;
  time = take-length d.table.time;
}

-- After any key but `time` the next in order follows.
pub following_other : (key : ℕ) (T : Table) → (key ≡ time_key → ⊥) → following key T ≡ key + 1
unfolding following
following_other key T h = rw (ne_eqb key time_key h)

-- The line of a count is before every later key, and leaves the other count.
count_kept : (c key v old : ℕ) (T : Table) → c ≤ tasks_key → c < key → (c < following key T) × (cond (eqb key c) v old ≡ old)
count_kept c key v old T l h = (go (ℕ_discrete key time_key), rw (ne_eqb key c (λ e. omega arith)))
  where
    go : Dec (key ≡ time_key) → c < following key T
    go (yes e) = rw e (after_row T (λ n. c < n) (λ r. omega arith) (λ r t. omega arith) (λ r t. omega arith))
    go (no e) = rw (following_other key T e) (omega arith)

-- What holds of the value that a line brings and of the count that was there holds of the count that is there then.
pub count_next :
    (Q : ℕ → Type 0) (c key v old : ℕ) (T : Table) → c ≤ tasks_key → (key ≡ c → Q v) → (c < key → Q old) → c < following key T
    → Q (cond (eqb key c) v old)
count_next Q c key v old T l new kept h = go (ℕ_discrete key c)
  where
    go : Dec (key ≡ c) → Q (cond (eqb key c) v old)
    go (yes e) = rw (eq-eqb key c e) (new e)
    go (no e) =
        rw (ne_eqb key c e)
        (kept (by_contra (suc c) key (λ b. omega (arith, following_other key T (λ g. omega arith)))))

module _ (T : Table) (d : Draft) where
  -- One line less is a part still,
  pub part_before : (v : ℕ) → PartOf T (advanced d v) → PartOf T d
  unfolding advanced placed
  part_before v p = record {
    processors = λ h. (let w = count_kept processors_key d.key v d.table.processors next (omega arith) h in
        sym w.1 ∙ p.processors w.0);
    tasks = λ h. (let w = count_kept tasks_key d.key v d.table.tasks next (omega arith) h in sym w.1 ∙ p.tasks w.0);
    period = front_less (eqb d.key period_key) v _ _ p.period;
    deadline = front_less (eqb d.key deadline_key) v _ _ p.deadline;
    steps = front_less (eqb d.key steps_key) v _ _ p.steps;
    processor = front_less (eqb d.key processor_key) v _ _ p.processor;
    priority = front_less (eqb d.key priority_key) v _ _ p.priority;
    time = front_less (eqb d.key time_key) v _ _ p.time;
  }
    where
      next : Table
      next = placed d.key v d.table

-- and the value of the line is the table's.
abbrev Says : Table → ℕ → Type 0
Says T key =
    (t : Table) (v : ℕ) → PartOf T (advanced (draft_of key t) v) → in_range key (own (draft_of key t)) v ≡ true
    → value_for T (draft_of key t) ≡ v

says : (T : Table) → EachKey (Says T)
unfolding value_for advanced placed following added own range_of ranges
says T = record {
  plan = λ t v p r. omega (arith, within_of plan_key _ v r);
  processors = λ t v p r. sym (p.processors (omega arith));
  tasks = λ t v p r. sym (p.tasks (omega arith));
  task = λ t v p r. omega (arith, within_of task_key _ v r);
  period = λ t v p r. front_last v t.period T.period p.period;
  deadline = λ t v p r. front_last v t.deadline T.deadline p.deadline;
  steps = λ t v p r. front_last v t.steps T.steps p.steps;
  processor = λ t v p r. front_last v t.processor T.processor p.processor;
  priority = λ t v p r. front_last v t.priority T.priority p.priority;
  time = λ t v p r. front_last v t.time T.time p.time;
  none = λ key h t v p r. absurd (none_in_range key _ v h r);
}

pub part_value :
    (T : Table) (d : Draft) (v : ℕ) → PartOf T (advanced d v) → in_range d.key (own d) v ≡ true → value_for T d ≡ v
part_value T d v p r = by_key (says T) d.key d.table v p r
