-- The numbers of a plan's rows (document 01, "Bounds").
use Rattle.std.specs.Prelude.{ℕ, ◌≤◌, ◌<◌}
use Rattle.facts.specs.Least.{Least, Unanswered}
use Rattle.table.specs.Table.{Table, rows}
use Rattle.table.specs.Plan.{plan_of}
use Rattle.equations.specs.Row.{Row, work, RowBounds}
use Rattle.equations.specs.Beside.{row_of}

-- The longest busy length that counts: "It must be at most 10,000,000."
abbrev pub limit : ℕ
limit = 10000000

-- The equations of the table's row r, counted from 0.
abbrev pub equations : Table → ℕ → Row
equations T r = row_of (plan_of T) r

-- A number D, M and bound for each row, counted from 0.
pub record Numbers : Type 0 where
  pub busy : ℕ → ℕ
  pub instances : ℕ → ℕ
  pub bound : ℕ → ℕ

-- They are the numbers of the table's rows, and every busy length is within the limit.
pub record Analysis (T : Table) (N : Numbers) : Type 0 where
  pub row : (r : ℕ) → r < rows T → RowBounds (equations T r) (N.busy r) (N.instances r) (N.bound r)
  pub within : (r : ℕ) → r < rows T → N.busy r ≤ limit

-- Row r, counted from 0, is the lowest with no busy length up to the limit.
pub record Stuck (T : Table) (r : ℕ) : Type 0 where
  pub row : r < rows T
  pub none : Unanswered (work (equations T r)) limit
  pub before : (k : ℕ) → k < r → (D : ℕ) × Least (work (equations T k)) D × (D ≤ limit)
