-- When the instances of a row are due.
use Prim.Native.Nat.{ℕ, zero, suc, ◌+◌}
use Rattle.std.specs.Prelude.{cond}
use Rattle.table.specs.Plan.{Plan}

-- The latest clock at which instance i of row r may be released: its arrival, plus the bounds R of the chain's earlier rows.
-- A f i is the clock of arrival i of first row f.
unfoldable pub due : Plan → (ℕ → ℕ) → (ℕ → ℕ → ℕ) → ℕ → ℕ → ℕ
due P R A zero i = A 0 i
due P R A (suc r) i = cond (P.first (suc r)) (A (suc r) i) (due P R A r i + R r)
