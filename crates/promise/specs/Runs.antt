-- Runs of the machine, with a log of their arrivals, and what holds in them.
use Rattle.std.specs.Prelude.{ℕ, suc, ◌≤◌, ◌<◌, ◌≡◌, true}
use Rattle.table.specs.Plan.{Plan}
use Rattle.table.specs.Refusals.{last_clock}
use Rattle.guards.specs.Moment.{Moment}
use Rattle.guards.specs.Machine.{start}
use Rattle.guards.specs.Seam.{Ticked, Arrived, Same}

-- One step: an arrival that is allowed, a tick before the clock's end, or nothing but another way to write the same rows.
pub data Next (P : Plan) (m n : Moment) : Type 0 where
  arrives : (f : ℕ) → f < P.rows → P.first f ≡ true → m.guard f ≤ m.clock → Arrived P m n f → Next P m n
  ticks : m.clock < last_clock → Ticked P m n → Next P m n
  rewrites : Same P m n → Next P m n

-- The log A has the releases of first rows in the step from m to n.
abbrev pub Noted : Plan → (ℕ → ℕ → ℕ) → Moment → Moment → Type 0
Noted P A m n =
    (f : ℕ) → f < P.rows → P.first f ≡ true → n.released f ≡ suc (m.released f) → A f (suc (m.released f)) ≡ n.clock

-- The runs of which A is the log: arrival i of first row f was taken at clock A f i.
pub data Run (P : Plan) (A : ℕ → ℕ → ℕ) : Moment → Type 0 where
  started : Run P A start
  goes : {m n : Moment} → Run P A m → Next P m n → Noted P A m n → Run P A n
