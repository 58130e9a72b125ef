-- The work of a tick.
use Prim.Native.Nat.{ℕ, ◌≤◌, ◌<◌}
use Rattle.table.specs.Plan.{Plan}
use Rattle.guards.specs.Moment.{Moment}
use Rattle.promise.specs.Level.{Level}

-- A row of row r's level is open after steps 1 to 3 of the tick from m to n.
pub record LevelOpen (P : Plan) (m n : Moment) (r : ℕ) : Type 0 where
  pub row : ℕ
  pub below : row < P.rows
  pub level : Level P r row
  pub still : n.completed row < m.released row

-- None is.
abbrev pub LevelQuiet : Plan → Moment → Moment → ℕ → Type 0
LevelQuiet P m n r = (k : ℕ) → k < P.rows → Level P r k → m.released k ≤ n.completed k
