-- The level of a row, and sums over it.
use Rattle.std.specs.Prelude.{ℕ, ◌+◌, ◌≤◌, ◌≡◌}
use Rattle.facts.specs.Sums.{sum_if}
use Rattle.table.specs.Plan.{Plan}
use Rattle.equations.specs.Beside.{beside}

-- Row k is of row r's level: it is on row r's processor, with equal or greater priority. Row r itself is, and so are the
-- rows beside it.
pub record Level (P : Plan) (r k : ℕ) : Type 0 where
  pub same : P.processor k ≡ P.processor r
  pub ahead : P.priority r ≤ P.priority k

-- The sum of f over row r's level.
unfoldable pub total : Plan → ℕ → (ℕ → ℕ) → ℕ
total P r f = f r + sum_if P.rows (beside P r) f
