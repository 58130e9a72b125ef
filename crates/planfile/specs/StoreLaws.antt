-- Laws of storing the value of the line due: there is a place for it, and the lists keep the table's at their fronts.
use Rattle.std.specs.Prelude.{ℕ, suc, ◌<◌, ◌≤◌, ◌≡◌, ◌≢◌, set, drop, refl, Bool, true, false, List, [], ◌∷◌, ◌++◌, eqb, length, take}
use Rattle.std.proofs.Common.{sym, ◌∙◌, ap, arith, ne_eqb, eqb-true, length-append, length-set, length-take-le, take-suc-set}
use Rattle.facts.specs.Filled.{laid}
use Rattle.table.specs.Keys.{period_key, deadline_key, steps_key, processor_key, priority_key, time_key}
use Rattle.table.specs.Table.{Table, table_of}
use Rattle.planfile.specs.declared.due.Due.{Due}
use Rattle.planfile.specs.Draft.{Draft, added, placed}
use Rattle.planfile.specs.DraftLaws.{Shape, due_there}
use Rattle.planfile.specs.Due.{due_of}
use Rattle.planfile.specs.FrontLaws.{Front}
use Rattle.planfile.specs.Reading.{Lists, lists_of}
use Rattle.planfile.specs.Reader.{stored_if, stored}

-- Lists of 32 tasks and of 128 rows.
pub record Sized (l : Lists) : Type 0 where
  pub period : length l.period ≡ 32
  pub deadline : length l.deadline ≡ 32
  pub steps : length l.steps ≡ 32
  pub processor : length l.processor ≡ 128
  pub priority : length l.priority ≡ 128
  pub time : length l.time ≡ 128

length_stored : (b : Bool) (place v : ℕ) (l : List ℕ) → length (stored_if b place v l) ≡ length l
unfolding stored_if
length_stored true place v l = length-set l place v
length_stored false place v l = refl

pub sized_next : (u : Due) (v : ℕ) (l : Lists) → Sized l → Sized (stored u.key u.task u.row v l)
unfolding stored
sized_next u v l s = record {
  period = length_stored _ _ v _ ∙ s.period;
  deadline = length_stored _ _ v _ ∙ s.deadline;
  steps = length_stored _ _ v _ ∙ s.steps;
  processor = length_stored _ _ v _ ∙ s.processor;
  priority = length_stored _ _ v _ ∙ s.priority;
  time = length_stored _ _ v _ ∙ s.time;
}

-- There is a place for the value of the key due, in the lists of the tasks and in those of the rows.
pub record TaskSlots (u : Due) (period deadline steps : List ℕ) : Type 0 where
  pub period_has : u.key ≡ period_key → u.task < length period
  pub deadline_has : u.key ≡ deadline_key → u.task < length deadline
  pub steps_has : u.key ≡ steps_key → u.task < length steps

pub record RowSlots (u : Due) (processor priority time : List ℕ) : Type 0 where
  pub processor_has : u.key ≡ processor_key → u.row < length processor
  pub priority_has : u.key ≡ priority_key → u.row < length priority
  pub time_has : u.key ≡ time_key → u.row < length time

pub record Slots (u : Due) (l : Lists) : Type 0 where
  pub tasks : TaskSlots u l.period l.deadline l.steps
  pub rows : RowSlots u l.processor l.priority l.time

pub slots : (d : Draft) (l : Lists) → Shape d → Sized l → Slots (due_of d) l
unfolding due_of
slots d l s z = record {
  tasks = record {
    period_has = λ e. (let k = due_there Shape d _ e s in omega (arith, k.task_most, z.period));
    deadline_has = λ e. (let k = due_there Shape d _ e s in omega (arith, k.task_most, z.deadline));
    steps_has = λ e. (let k = due_there Shape d _ e s in omega (arith, k.task_most, z.steps));
  };
  rows = record {
    processor_has = λ e. (let k = due_there Shape d _ e s in omega (arith, k.row_due, k.row_most, z.processor));
    priority_has = λ e. (let k = due_there Shape d _ e s in omega (arith, k.row_due, k.row_most, z.priority));
    time_has = λ e. (let k = due_there Shape d _ e s in omega (arith, k.row_due, k.row_most, z.time));
  };
}

-- A list that has another at its front has it also with one entry more.
front_next :
    (b : Bool) (place v : ℕ) (k l : List ℕ) → Front k l → (b ≡ true → (place ≡ length k) × (place < length l))
    → Front (added b v k) (stored_if b place v l)
unfolding added stored_if
front_next true place v k l f h =
    let there : place ≡ length k = (h refl).0 in
    let inside : length k < length l = omega (arith, (h refl).1) in
    let more : length (k ++ (v ∷ [])) ≡ suc (length k) = omega (arith, length-append k (v ∷ [])) in
    rw (there, more) (take-suc-set l (length k) v inside ∙ ap (λ (t : List ℕ). t ++ (v ∷ [])) f)
front_next false place v k l f h = f

-- The lists have those of the table at their fronts.
pub record Kept (T : Table) (l : Lists) : Type 0 where
  pub period : Front T.period l.period
  pub deadline : Front T.deadline l.deadline
  pub steps : Front T.steps l.steps
  pub processor : Front T.processor l.processor
  pub priority : Front T.priority l.priority
  pub time : Front T.time l.time

kept_next : (d : Draft) (v : ℕ) (l : Lists) → Shape d → Sized l → Kept d.table l → Kept (placed d.key v d.table) (stored d.key (length d.table.steps) (length d.table.time) v l)
unfolding placed stored due_of
kept_next d v l s z k =
    let room = slots d l s z in
    record {
      period = front_next (eqb d.key period_key) _ v _ _ k.period
          (λ e. (let q = eqb-true d.key period_key e in (omega (arith, (due_there Shape d _ q s).period), room.tasks.period_has q)));
      deadline = front_next (eqb d.key deadline_key) _ v _ _ k.deadline
          (λ e. (let q = eqb-true d.key deadline_key e in (omega (arith, (due_there Shape d _ q s).deadline), room.tasks.deadline_has q)));
      steps = front_next (eqb d.key steps_key) _ v _ _ k.steps
          (λ e. (let q = eqb-true d.key steps_key e in (refl, room.tasks.steps_has q)));
      processor = front_next (eqb d.key processor_key) _ v _ _ k.processor
          (λ e. (let q = eqb-true d.key processor_key e in (omega (arith, (due_there Shape d _ q s).processor), room.rows.processor_has q)));
      priority = front_next (eqb d.key priority_key) _ v _ _ k.priority
          (λ e. (let q = eqb-true d.key priority_key e in (omega (arith, (due_there Shape d _ q s).priority), room.rows.priority_has q)));
      time = front_next (eqb d.key time_key) _ v _ _ k.time
          (λ e. (let q = eqb-true d.key time_key e in (refl, room.rows.time_has q)));
    }

-- Six lists, each with the value where it is its key's.
pub stored_lists :
    (u : Due) (v : ℕ) (l : Lists) {period deadline steps processor priority time : List ℕ}
    → period ≡ stored_if (eqb u.key period_key) u.task v l.period
    → deadline ≡ stored_if (eqb u.key deadline_key) u.task v l.deadline
    → steps ≡ stored_if (eqb u.key steps_key) u.task v l.steps
    → processor ≡ stored_if (eqb u.key processor_key) u.row v l.processor
    → priority ≡ stored_if (eqb u.key priority_key) u.row v l.priority
    → time ≡ stored_if (eqb u.key time_key) u.row v l.time
    → lists_of period deadline steps processor priority time ≡ stored u.key u.task u.row v l
unfolding stored
stored_lists u v l p d s q r t = rw (p, d, s, q, r, t)

-- The same by the key's number.
pub stored_at :
    {key k : ℕ} (n place v : ℕ) (l : List ℕ) → key ≡ k → stored_if (eqb k n) place v l ≡ stored_if (eqb key n) place v l
stored_at n place v l e = sym (ap (λ (m : ℕ). stored_if (eqb m n) place v l) e)

-- A list whose key is another stays.
pub stored_not : {key : ℕ} (n place v : ℕ) (l : List ℕ) → (key ≡ n → ⊥) → l ≡ stored_if (eqb key n) place v l
unfolding stored_if
stored_not n place v l e = rw (ne_eqb _ _ e)

-- A table whose lists stand at the fronts of these, by its counts.
pub kept_table :
    (T : Table) (l : Lists) (row : ℕ) → Kept T l → T.tasks ≡ length T.period → T.tasks ≡ length T.deadline
    → T.tasks ≡ length T.steps → row ≡ length T.processor → row ≡ length T.priority → row ≡ length T.time
    → T ≡ table_of T.processors T.tasks (take T.tasks l.period) (take T.tasks l.deadline) (take T.tasks l.steps) (take row l.processor) (take row l.priority) (take row l.time)
kept_table T l row k p d s q u t =
    let p' = ap (λ (n : ℕ). take n l.period) p ∙ k.period in
    let d' = ap (λ (n : ℕ). take n l.deadline) d ∙ k.deadline in
    let s' = ap (λ (n : ℕ). take n l.steps) s ∙ k.steps in
    let q' = ap (λ (n : ℕ). take n l.processor) q ∙ k.processor in
    let u' = ap (λ (n : ℕ). take n l.priority) u ∙ k.priority in
    let t' = ap (λ (n : ℕ). take n l.time) t ∙ k.time in
    rw (p', d', s', q', u', t')

pub kept_of : (d : Draft) (u : Due) (v : ℕ) (l : Lists) → u ≡ due_of d → Shape d → Sized l → Kept d.table l → Kept (placed d.key v d.table) (stored u.key u.task u.row v l)
unfolding due_of
kept_of d u v l e s z k = rw e (kept_next d v l s z k)

-- A list's first entries, as a copy into the front of another leaves it.
pub laid_copied :
    (from over copy : List ℕ) (n : ℕ) → n ≤ length from → copy ≡ take n from → copy ++ drop n over ≡ laid (take n from) over
laid_copied from over copy n h e = rw (e, length-take-le n from h) refl

-- So many tasks and rows have a place in the lists.
pub record Fronts (tasks rows : ℕ) (l : Lists) : Type 0 where
  pub period : tasks ≤ length l.period
  pub deadline : tasks ≤ length l.deadline
  pub steps : tasks ≤ length l.steps
  pub processor : rows ≤ length l.processor
  pub priority : rows ≤ length l.priority
  pub time : rows ≤ length l.time

-- The value of each key in its list.
module _ (key task row v : ℕ) (l : Lists) where
  pub stored_period : key ≡ period_key → record l { period = set l.period task v } ≡ stored key task row v l
  unfolding stored stored_if
  stored_period e = rw e refl

  pub stored_deadline : key ≡ deadline_key → record l { deadline = set l.deadline task v } ≡ stored key task row v l
  unfolding stored stored_if
  stored_deadline e = rw e refl

  pub stored_steps : key ≡ steps_key → record l { steps = set l.steps task v } ≡ stored key task row v l
  unfolding stored stored_if
  stored_steps e = rw e refl

  pub stored_processor : key ≡ processor_key → record l { processor = set l.processor row v } ≡ stored key task row v l
  unfolding stored stored_if
  stored_processor e = rw e refl

  pub stored_priority : key ≡ priority_key → record l { priority = set l.priority row v } ≡ stored key task row v l
  unfolding stored stored_if
  stored_priority e = rw e refl

  pub stored_time : key ≡ time_key → record l { time = set l.time row v } ≡ stored key task row v l
  unfolding stored stored_if
  stored_time e = rw e refl

  -- Any other key has none.
  pub stored_nowhere :
      key ≢ period_key → key ≢ deadline_key → key ≢ steps_key → key ≢ processor_key → key ≢ priority_key → key ≢ time_key
      → l ≡ stored key task row v l
  unfolding stored stored_if
  stored_nowhere a b c d e f =
      rw (ne_eqb _ _ a, ne_eqb _ _ b, ne_eqb _ _ c, ne_eqb _ _ d, ne_eqb _ _ e, ne_eqb _ _ f) refl
