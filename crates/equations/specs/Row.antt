-- The equations of one row, apart from any plan (document 01, "Bounds").
use Rattle.std.specs.Prelude.{◌≡◌, ℕ, suc, ◌+◌, ◌*◌, ◌-◌, ◌≤◌, ◌<◌}
use Rattle.facts.specs.Rounding.{ceil}
use Rattle.facts.specs.Least.{Least}

-- All that the equations read of a row: its period p, its time c, and what the rows beside it ask for in t ticks.
pub record Row : Type 0 where
  pub period : ℕ
  pub cost : ℕ
  pub others : ℕ → ℕ

-- What the row and the rows beside it ask for in t ticks: the right side of D's equation.
unfoldable pub work : Row → ℕ → ℕ
work q t = ceil t q.period * q.cost + q.others t

-- What the row's instances 1 to k + 1, and the rows beside it in t ticks, ask for: the right side of C(m)'s equation,
-- for instance m = k + 1.
unfoldable pub work_to : Row → ℕ → ℕ → ℕ
work_to q k t = suc k * q.cost + q.others t

-- R is the greatest of C(m) − (m − 1) × p for m from 1 to M, where C(m) is the least t > 0 with t equal to its right side.
pub record Greatest (q : Row) (M R : ℕ) : Type 0 where
  pub upper : (k : ℕ) → k < M → (C : ℕ) → Least (work_to q k) C → C - k * q.period ≤ R
  pub instance : ℕ
  pub within : instance < M
  pub end : ℕ
  pub ends : Least (work_to q instance) end
  pub reached : R ≡ end - instance * q.period

-- The row's numbers: D is the least t > 0 with t equal to its right side, M = ceil(D / p), and R is the row's bound.
pub record RowBounds (q : Row) (D M R : ℕ) : Type 0 where
  pub busy : Least (work q) D
  pub instances : M ≡ ceil D q.period
  pub bound : Greatest q M R
