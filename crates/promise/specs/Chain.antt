-- Along a chain: an instance whose bounds have passed has ended.
use Rattle.std.specs.Prelude.{ℕ, suc, ◌+◌, ◌<◌, ◌≡◌, true, false}
use Rattle.table.specs.Plan.{Plan}

-- Rows a to a + n are the first rows of one chain, or all of them.
pub record Chain (P : Plan) (a n : ℕ) : Type 0 where
  pub inside : a + n < P.rows
  pub starts : P.first a ≡ true
  pub goes_on : (j : ℕ) → j < n → P.first (suc (a + j)) ≡ false
