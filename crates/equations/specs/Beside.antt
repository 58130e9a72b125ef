-- The rows that count for a row of a plan, and its equations (document 01, "Bounds": "let H be the other rows on its
-- processor with equal or greater priority").
use Rattle.std.specs.Prelude.{Bool, not, ◌&&◌, ℕ, ◌*◌, leb, eqb}
use Rattle.facts.specs.Sums.{sum_if}
use Rattle.facts.specs.Rounding.{ceil}
use Rattle.table.specs.Plan.{Plan}
use Rattle.equations.specs.Row.{Row}

-- Row k is on row r's processor, with equal or greater priority.
unfoldable pub level : Plan → ℕ → ℕ → Bool
level P r k = eqb (P.processor k) (P.processor r) && leb (P.priority r) (P.priority k)

-- Row k is another such row: one of H.
unfoldable pub beside : Plan → ℕ → ℕ → Bool
beside P r k = level P r k && not (eqb k r)

-- What the rows beside r ask for in t ticks: the sum over H of ceil(t / period) × time.
unfoldable pub demand : Plan → ℕ → ℕ → ℕ
demand P r t = sum_if P.rows (beside P r) (λ k. ceil t (P.period k) * P.cost k)

-- What the equations read of row r.
unfoldable pub row_of : Plan → ℕ → Row
row_of P r = record {
  period = P.period r;
  cost = P.cost r;
  others = demand P r;
}
