-- The window of a row: what holds of it after every call, since its level was last without an open row.
use Rattle.std.specs.Prelude.{ℕ, suc, ◌+◌, ◌*◌, ◌≤◌, ◌<◌, ◌≡◌}
use Rattle.facts.specs.Rounding.{ceil}
use Rattle.table.specs.Plan.{Plan}
use Rattle.guards.specs.Moment.{Moment}
use Rattle.equations.specs.Beside.{demand}
use Rattle.promise.specs.Level.{Level, total}

-- The work done on row k since the start of the run, where each completed instance counts with its whole time.
unfoldable pub work : Plan → Moment → ℕ → ℕ
work P m k = m.completed k * P.cost k + m.used k

-- The window of row r began at the clock `start`, when each row k of its level had completed `base k` instances and had
-- none open. `due r i` is the latest clock at which instance i of row r may be released.
pub record Window (P : Plan) (due : ℕ → ℕ → ℕ) (m : Moment) (r : ℕ) : Type 0 where
  pub start : ℕ
  pub base : ℕ → ℕ
  pub begun : start ≤ m.clock
  pub based : (k : ℕ) → k < P.rows → Level P r k → base k ≤ m.completed k
  -- Its level has worked in each tick since.
  pub worked : m.clock + total P r (λ k. base k * P.cost k) ≤ start + total P r (work P m)
  -- The releases of a row of its level since then are a period apart.
  pub spaced :
      (k : ℕ) → k < P.rows → Level P r k → base k < m.released k
      → start + m.released k * P.period k ≤ m.guard k + base k * P.period k
  -- Each open instance of row r is due no earlier than the periods since then say.
  pub early :
      (i : ℕ) → m.completed r < i → i ≤ m.released r
      → start + i * P.period r ≤ due r i + P.period r + base r * P.period r
  -- No length up to now has been enough for what the level asks for in it,
  pub full : (y : ℕ) → 0 < y → start + y ≤ m.clock → y < ceil y (P.period r) * P.cost r + demand P r y
  -- nor for the instances of row r completed by now, the next one, and the demand of the rows beside it.
  pub behind :
      (y : ℕ) → 0 < y → start + y ≤ m.clock
      → y + base r * P.cost r < suc (m.completed r) * P.cost r + demand P r y

-- An instance of row r that is released from m to n is released no later than it is due.
abbrev pub Punctual : (ℕ → ℕ → ℕ) → Moment → Moment → ℕ → Type 0
Punctual due m n r = n.released r ≡ suc (m.released r) → n.clock ≤ due r (suc (m.released r))
