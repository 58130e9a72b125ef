-- Laws of the layouts: parts put together are the whole.
use Rattle.std.specs.Prelude.{ℕ, min, ◌≡◌, List, length, replicate, Err, Ok, Result}
use Rattle.std.proofs.Common.{◌∙◌, ap}
use Rattle.std.proofs.Math.Path.{refl}
use Rattle.facts.specs.Sums.{sum}
use Rattle.words.specs.Words.{word, with_word, gathered, with_field}
use Rattle.words.specs.FieldsLaws.{length_gathered}
use Rattle.table.specs.declared.refusal.Refusal.{Refusal}
use Rattle.table.specs.Table.{Table, table_of, at}
use Rattle.table.specs.Refusals.{number_of, place_of}
use Rattle.guards.specs.declared.state.State.{State}
use Rattle.guards.specs.StateLaws.{Sizes}
use Rattle.guards.specs.Outcome.{Outcome}
use Rattle.rack.specs.declared.answer.RackAnswer.{RackAnswer}
use Rattle.rack.specs.Layouts.{tasks_in, task_field, rows_in, row_field, table_in, state_in, with_state}
use Rattle.rack.specs.RackCalls.{StateOutcome, PlanReported, refused_as, reported_as, answered_as, list_after, kept_in}
use Rattle.report.specs.Reporting.{FileReported}

-- The rows of a table that a list has room for.
abbrev pub rows_held : Table → ℕ
rows_held T = min (sum (min T.tasks 32) (at T.steps)) 128

pub rows_held_in : (l : List ℕ) {T : Table} → T ≡ table_in l → rows_held T ≡ rows_in l
unfolding rows_in tasks_in table_in
rows_held_in l e = rw e

-- The table after has the fields of the list over the lists of the table before; n of its rows have room.
pub record TableRead (l : List ℕ) (before : Table) (n : ℕ) (after : Table) : Type 0 where
  pub period : after.period ≡ gathered l 2 3 (tasks_in l) before.period
  pub deadline : after.deadline ≡ gathered l 3 3 (tasks_in l) before.deadline
  pub steps : after.steps ≡ gathered l 4 3 (tasks_in l) before.steps
  pub rows : n ≡ min (sum (tasks_in l) (at after.steps)) 128
  pub processor : after.processor ≡ gathered l 98 3 n before.processor
  pub priority : after.priority ≡ gathered l 99 3 n before.priority
  pub time : after.time ≡ gathered l 100 3 n before.time

-- A table's lists read one field after another.
pub table_read : (l : List ℕ) (before : Table) (tasks chains n : ℕ) {period deadline steps processor priority time : List ℕ}
    → tasks ≡ word l 1
    → chains ≡ min tasks 32
    → period ≡ gathered l 2 3 chains before.period
    → deadline ≡ gathered l 3 3 chains before.deadline
    → steps ≡ gathered l 4 3 chains before.steps
    → n ≡ min (sum chains (at steps)) 128
    → processor ≡ gathered l 98 3 n before.processor
    → priority ≡ gathered l 99 3 n before.priority
    → time ≡ gathered l 100 3 n before.time
    → TableRead l before n (table_of 0 0 period deadline steps processor priority time)
unfolding tasks_in
table_read l before tasks chains n t c d e f g h i j = record {
  period = rw (d, c, t);
  deadline = rw (e, c, t);
  steps = rw (f, c, t);
  rows = rw (g, c, t);
  processor = h;
  priority = i;
  time = j;
}

-- Over lists of zeros they are the lists of the table that the list holds, and n are its rows.
abbrev pub blank_table : Table
blank_table =
    table_of 0 0 (replicate 32 0) (replicate 32 0) (replicate 32 0) (replicate 128 0) (replicate 128 0) (replicate 128 0)

pub rows_opened : {l : List ℕ} {n : ℕ} {T : Table} → TableRead l blank_table n T → n ≡ rows_in l
unfolding rows_in task_field
rows_opened r = r.rows ∙ rw r.steps

pub table_opened : {l : List ℕ} {n p t : ℕ} {T : Table} → TableRead l blank_table n T → p ≡ word l 0 → t ≡ word l 1
    → table_of p t T.period T.deadline T.steps T.processor T.priority T.time ≡ table_in l
unfolding table_in task_field row_field
table_opened r a b =
    rw (r.period, r.deadline, r.steps, r.processor, r.priority, r.time, rows_opened r, a, b)

pub refused_made : (refusal : Refusal) {n v : ℕ} → n ≡ number_of refusal → v ≡ place_of refusal
    → ◌≡◌ {A = RackAnswer} (record { number = n; value = v }) (refused_as refusal)
unfolding refused_as
refused_made refusal e f = rw (e, f)

-- The state after is the clock of the list, and its fields over the lists of the state before.
pub record StateRead (n : ℕ) (l : List ℕ) (before after : State) : Type 0 where
  pub clock : after.clock ≡ word l 0
  pub released : after.released ≡ gathered l 1 4 n before.released
  pub completed : after.completed ≡ gathered l 2 4 n before.completed
  pub used : after.used ≡ gathered l 3 4 n before.used
  pub guard : after.guard ≡ gathered l 4 4 n before.guard

-- Over lists of zeros it is the state that the list holds, in lists of 128 entries.
abbrev pub blank_state : State
blank_state = record {
  clock = 0;
  released = replicate 128 0;
  completed = replicate 128 0;
  used = replicate 128 0;
  guard = replicate 128 0;
}

pub state_read : {n : ℕ} {l : List ℕ} {after : State} → StateRead n l blank_state after → after ≡ state_in n l
unfolding state_in
state_read {n} {l} r = λ i. record { clock = r.clock i; released = r.released i; completed = r.completed i; used = r.used i; guard = r.guard i }

pub read_sizes : {n : ℕ} {l : List ℕ} {after : State} → StateRead n l blank_state after → Sizes after
read_sizes {n} {l} r = record {
  released = ap (λ (x : List ℕ). length x) r.released ∙ length_gathered l 1 4 n (replicate 128 0);
  completed = ap (λ (x : List ℕ). length x) r.completed ∙ length_gathered l 2 4 n (replicate 128 0);
  used = ap (λ (x : List ℕ). length x) r.used ∙ length_gathered l 3 4 n (replicate 128 0);
  guard = ap (λ (x : List ℕ). length x) r.guard ∙ length_gathered l 4 4 n (replicate 128 0);
}

pub state_kept : (n : ℕ) (σ : State) (l : List ℕ) {l₁ l₂ l₃ l₄ l₅ : List ℕ}
    → l₁ ≡ with_word l 0 σ.clock
    → l₂ ≡ with_field l₁ 1 4 n σ.released
    → l₃ ≡ with_field l₂ 2 4 n σ.completed
    → l₄ ≡ with_field l₃ 3 4 n σ.used
    → l₅ ≡ with_field l₄ 4 4 n σ.guard
    → l₅ ≡ with_state n σ l
unfolding with_state
state_kept n σ l a b c d e = rw (e, d, c, b, a)

pub taken_kept : (n value : ℕ) (o : Outcome) (l : List ℕ) {written : List ℕ} → o.answer ≡ Ok value → written ≡ with_state n o.state l
    → ◌≡◌ {A = StateOutcome} (record { answer = record { number = 0; value = value }; state = written }) (kept_in n l o)
unfolding kept_in answered_as list_after
taken_kept n value o l e f = rw (e, f)

pub refused_kept : (n : ℕ) (refusal : Refusal) (o : Outcome) {l : List ℕ} {a : RackAnswer} → o.answer ≡ Err refusal → a ≡ refused_as refusal
    → ◌≡◌ {A = StateOutcome} (record { answer = a; state = l }) (kept_in n l o)
unfolding kept_in answered_as list_after
refused_kept n refusal o e f = rw (e, f)

pub bytes_reported : {file before after : List ℕ} {count : ℕ} {r : Result ℕ Refusal} → r ≡ Ok count
    → FileReported file before (record { answer = r; out = after }) → PlanReported file before (record { number = 0; value = count }) after
unfolding reported_as
bytes_reported {r = r} e f = record { reporting = r; answered = rw e; reported = f }

pub refusal_reported : {file before after : List ℕ} {refusal : Refusal} {r : Result ℕ Refusal} {a : RackAnswer} → r ≡ Err refusal
    → a ≡ refused_as refusal → FileReported file before (record { answer = r; out = after }) → PlanReported file before a after
unfolding reported_as
refusal_reported {r = r} e g f = record { reporting = r; answered = rw (e, g); reported = f }

-- A report is answered as any call is.
pub reported_answered : {file before after : List ℕ} {r : Result ℕ Refusal} {a : RackAnswer} → a ≡ answered_as r
    → FileReported file before (record { answer = r; out = after }) → PlanReported file before a after
unfolding answered_as reported_as
reported_answered {file} {before} {after} {r} {a} e f = record { reporting = r; answered = e ∙ same r; reported = f }
  where
    same : (r : Result ℕ Refusal) → answered_as r ≡ reported_as r
    same (Ok count) = refl
    same (Err refusal) = refl
