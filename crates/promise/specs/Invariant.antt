-- What holds after every call of a run, and what it says of one moment.
use Rattle.std.specs.Prelude.{ℕ, suc, ◌+◌, ◌≤◌, ◌<◌, ◌≡◌, true, false}
use Rattle.table.specs.Plan.{Plan}
use Rattle.guards.specs.Moment.{Moment}
use Rattle.guards.specs.FitsLaws.{Fits}
use Rattle.promise.specs.Window.{Window}
use Rattle.promise.specs.Due.{due}

-- The log A of arrivals, up to m: those of a first row are a period apart, and its guard is a period after the last.
pub record Log (P : Plan) (A : ℕ → ℕ → ℕ) (m : Moment) : Type 0 where
  pub apart :
      (f : ℕ) → f < P.rows → P.first f ≡ true → (i : ℕ) → 0 < i → i < m.released f
      → A f i + P.period f ≤ A f (suc i)
  pub closes :
      (f : ℕ) → f < P.rows → P.first f ≡ true → 0 < m.released f
      → A f (m.released f) + P.period f ≤ m.guard f

-- A guard past the clock, of a row that isn't first, is at most a period after the latest instance was due.
abbrev pub Held : Plan → (ℕ → ℕ → ℕ) → Moment → ℕ → Type 0
Held P due m r = m.clock < m.guard r → (0 < m.released r) × (m.guard r ≤ due r (m.released r) + P.period r)

-- What holds after every call: the state fits, the log is right, guards are held no longer than due, and each row has a
-- window.
pub record Invariant (P : Plan) (R : ℕ → ℕ) (A : ℕ → ℕ → ℕ) (m : Moment) : Type 0 where
  pub fits : Fits P m
  pub log : Log P A m
  pub held : (k : ℕ) → suc k < P.rows → P.first (suc k) ≡ false → Held P (due P R A) m (suc k)
  pub window : (r : ℕ) → r < P.rows → Window P (due P R A) m r
