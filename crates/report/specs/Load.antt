-- The load of a processor (document 01, "Bounds").
use Rattle.std.specs.Prelude.{ℕ, ◌*◌, ◌/◌, eqb}
use Rattle.facts.specs.Sums.{sum_if}
use Rattle.table.specs.Plan.{Plan}

-- The load of one row: 1000 × time / period, rounded down.
unfoldable pub row_load : ℕ → ℕ → ℕ
row_load cost period = 1000 * cost / period

-- "A processor's load is the sum over its rows of floor(1000 × time / period)": of n rows, given each row's processor,
-- cost and period.
unfoldable pub load_of : ℕ → (ℕ → ℕ) → (ℕ → ℕ) → (ℕ → ℕ) → ℕ → ℕ
load_of n on cost period processor = sum_if n (λ r. eqb (on r) processor) (λ r. row_load (cost r) (period r))

-- The same of a plan's rows.
unfoldable pub load : Plan → ℕ → ℕ
load P processor = load_of P.rows P.processor P.cost P.period processor
