-- The numbers of a table in records, read from the records.
use Rattle.std.specs.Prelude.{ℕ, zero, suc, ◌≤◌, ◌<◌, ◌≡◌, refl, Bool, true, false, ◌&&◌, leb, List, [], ◌∷◌, length, min, get_or, replicate}
use Rattle.std.proofs.Common.{sym, ◌∙◌, ap, arith}
use Rattle.std.proofs.Math.Decide.{dec_lt}
use Rattle.facts.specs.Filled.{filled}
use Rattle.facts.specs.FilledLaws.{length_filled, get_d_filled, get_d_rest}
use Rattle.table.specs.Table.{at, long_enough}
use Rattle.columns.specs.declared.columns.Chain.{Chain}
use Rattle.columns.specs.declared.columns.Row.{Row}
use Rattle.records.specs.Records.{chain_at, row_at, no_chain, no_row, in_records}

past : {A : Type 0} (l : List A) (i : ℕ) (d : A) → length l ≤ i → get_or l i d ≡ d
past [] i d h = refl
past (x ∷ l) zero d h = absurd (omega arith)
past (x ∷ l) (suc i) d h = past l i d (omega arith)

zeros : (n i : ℕ) → at (replicate n 0) i ≡ 0
zeros zero i = refl
zeros (suc n) zero = refl
zeros (suc n) (suc i) = zeros n i

-- Filled with what is there and 0 past it.
capped : (f : ℕ → ℕ) (k n : ℕ) → length {A = ℕ} (replicate n 0) ≡ n → ((i : ℕ) → k ≤ i → f i ≡ 0) → (i : ℕ) → i < n → at (filled f (min k n) (replicate n 0)) i ≡ f i
capped f k n z e i h = go (dec_lt i k)
  where
    go : Dec (i < k) → at (filled f (min k n) (replicate n 0)) i ≡ f i
    go (yes l) = get_d_filled f (min k n) i 0 (replicate n 0) (omega arith)
    go (no l) = get_d_rest f (min k n) i 0 (replicate n 0) (omega arith) ∙ zeros n i ∙ sym (e i (omega arith))

long : (f : ℕ → ℕ) (k n : ℕ) → length {A = ℕ} (replicate n 0) ≡ n → length {A = ℕ} (filled f (min k n) (replicate n 0)) ≡ n
long f k n z = length_filled f (min k n) (replicate n 0) (omega (arith, z)) ∙ z

module _ (p t : ℕ) (chains : List Chain) (rows : List Row) where
  pub period_in : (i : ℕ) → i < 32 → at (in_records p t chains rows).period i ≡ (chain_at chains i).period
  unfolding in_records
  period_in = capped (λ i. (chain_at chains i).period) (length chains) 32 refl (λ i h. ap (λ (c : Chain). c.period) (past chains i no_chain h))

  pub deadline_in : (i : ℕ) → i < 32 → at (in_records p t chains rows).deadline i ≡ (chain_at chains i).deadline
  unfolding in_records
  deadline_in = capped (λ i. (chain_at chains i).deadline) (length chains) 32 refl (λ i h. ap (λ (c : Chain). c.deadline) (past chains i no_chain h))

  pub steps_in : (i : ℕ) → i < 32 → at (in_records p t chains rows).steps i ≡ (chain_at chains i).steps
  unfolding in_records
  steps_in = capped (λ i. (chain_at chains i).steps) (length chains) 32 refl (λ i h. ap (λ (c : Chain). c.steps) (past chains i no_chain h))

  pub processor_in : (i : ℕ) → i < 128 → at (in_records p t chains rows).processor i ≡ (row_at rows i).processor
  unfolding in_records
  processor_in = capped (λ i. (row_at rows i).processor) (length rows) 128 refl (λ i h. ap (λ (c : Row). c.processor) (past rows i no_row h))

  pub priority_in : (i : ℕ) → i < 128 → at (in_records p t chains rows).priority i ≡ (row_at rows i).priority
  unfolding in_records
  priority_in = capped (λ i. (row_at rows i).priority) (length rows) 128 refl (λ i h. ap (λ (c : Row). c.priority) (past rows i no_row h))

  pub time_in : (i : ℕ) → i < 128 → at (in_records p t chains rows).time i ≡ (row_at rows i).time
  unfolding in_records
  time_in = capped (λ i. (row_at rows i).time) (length rows) 128 refl (λ i h. ap (λ (c : Row). c.time) (past rows i no_row h))

  pub period_long : length (in_records p t chains rows).period ≡ 32
  unfolding in_records
  period_long = long (λ i. (chain_at chains i).period) (length chains) 32 refl

  pub deadline_long : length (in_records p t chains rows).deadline ≡ 32
  unfolding in_records
  deadline_long = long (λ i. (chain_at chains i).deadline) (length chains) 32 refl

  pub steps_long : length (in_records p t chains rows).steps ≡ 32
  unfolding in_records
  steps_long = long (λ i. (chain_at chains i).steps) (length chains) 32 refl

  pub processor_long : length (in_records p t chains rows).processor ≡ 128
  unfolding in_records
  processor_long = long (λ i. (row_at rows i).processor) (length rows) 128 refl

  pub priority_long : length (in_records p t chains rows).priority ≡ 128
  unfolding in_records
  priority_long = long (λ i. (row_at rows i).priority) (length rows) 128 refl

  pub time_long : length (in_records p t chains rows).time ≡ 128
  unfolding in_records
  time_long = long (λ i. (row_at rows i).time) (length rows) 128 refl

  same : (b : Bool) → b && (b && b) ≡ b
  same true = refl
  same false = refl

  pub tasks_held : (n : ℕ) → long_enough n (in_records p t chains rows).period (in_records p t chains rows).deadline (in_records p t chains rows).steps ≡ leb n 32
  unfolding long_enough
  tasks_held n = rw (period_long, deadline_long, steps_long) (same (leb n 32))

  pub rows_held : (n : ℕ) → long_enough n (in_records p t chains rows).processor (in_records p t chains rows).priority (in_records p t chains rows).time ≡ leb n 128
  unfolding long_enough
  rows_held n = rw (processor_long, priority_long, time_long) (same (leb n 128))

  pub times_held : (n : ℕ) → leb n (length (in_records p t chains rows).time) ≡ leb n 128
  times_held n = rw time_long

  pub processors_in : (in_records p t chains rows).processors ≡ p
  unfolding in_records
  processors_in = refl

  pub tasks_in : (in_records p t chains rows).tasks ≡ t
  unfolding in_records
  tasks_in = refl
