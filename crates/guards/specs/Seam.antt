-- What a tick and an arrival do, row by row: the clauses through which everything above the machine looks at it. m is the
-- moment before the call and n the one after.
use Rattle.std.specs.Prelude.{ℕ, suc, pred, ◌+◌, ◌≤◌, ◌<◌, ◌≡◌, ◌⊎◌, Bool, true, false}
use Rattle.table.specs.Plan.{Plan}
use Rattle.guards.specs.Moment.{Moment}
use Rattle.guards.specs.Running.{runs}

-- Row r has an instance released and not completed.
abbrev pub Open : Moment → ℕ → Type 0
Open m r = m.completed r < m.released r

-- What a tick does to the work of row r: nothing; or its open instance uses one tick and stays within its time; or its
-- open instance completes.
pub data Work (P : Plan) (m n : Moment) (r : ℕ) : Type 0 where
  kept : n.completed r ≡ m.completed r → n.used r ≡ m.used r → Work P m n r
  ran : Open m r → n.completed r ≡ m.completed r → n.used r ≡ suc (m.used r) → n.used r < P.cost r → Work P m n r
  ended : Open m r → n.completed r ≡ suc (m.completed r) → n.used r ≡ 0 → Work P m n r

-- After steps 1 to 3 of the tick no row of row r's processor is open.
abbrev pub Quiet : Plan → Moment → Moment → ℕ → Type 0
Quiet P m n r = (k : ℕ) → k < P.rows → P.processor k ≡ P.processor r → m.released k ≤ n.completed k

-- What a tick does to the gate of row r, its guard and its releases: nothing, and then a row that isn't first and whose
-- preceding row is ahead has its guard past the clock; or its guard comes down to the clock, since its processor is quiet;
-- or one instance is let go, since the guard was due or the processor quiet.
pub data Gate (P : Plan) (m n : Moment) (r : ℕ) : Type 0 where
  kept :
      n.released r ≡ m.released r → n.guard r ≡ m.guard r
      → (P.first r ≡ false → m.released r < n.completed (pred r) → n.clock < n.guard r) → Gate P m n r
  lowered :
      P.first r ≡ false → Quiet P m n r → n.released r ≡ m.released r → n.guard r ≡ n.clock
      → n.completed (pred r) ≤ m.released r → Gate P m n r
  lets_go :
      P.first r ≡ false → m.released r < n.completed (pred r) → n.released r ≡ suc (m.released r)
      → n.guard r ≡ n.clock + P.period r → (m.guard r ≤ n.clock) ⊎ Quiet P m n r → Gate P m n r

-- Row r has got the tick.
abbrev pub Moved : Moment → Moment → ℕ → Type 0
Moved m n r = (n.completed r ≡ suc (m.completed r)) ⊎ ((n.completed r ≡ m.completed r) × (n.used r ≡ suc (m.used r)))

-- It is row r's turn: no open row of its processor is more urgent.
abbrev pub Turn : Plan → Moment → ℕ → Type 0
Turn P m r = (k : ℕ) → k < P.rows → P.processor k ≡ P.processor r → Open m k → P.priority k ≤ P.priority r

-- What a tick does. Where a row is open, a row of its processor gets the tick (busy); a row that gets it has its turn; and
-- one row of a processor gets it at most (once).
pub record Ticked (P : Plan) (m n : Moment) : Type 0 where
  pub clock : n.clock ≡ suc m.clock
  pub work : (r : ℕ) → r < P.rows → Work P m n r
  pub gate : (r : ℕ) → r < P.rows → Gate P m n r
  pub busy : (r : ℕ) → r < P.rows → Open m r → (k : ℕ) × (k < P.rows) × (P.processor k ≡ P.processor r) × Moved m n k
  pub turn : (r : ℕ) → r < P.rows → Moved m n r → Turn P m r
  pub once : (i j : ℕ) → i < P.rows → j < P.rows → P.processor i ≡ P.processor j → Moved m n i → Moved m n j → i ≡ j

-- A tick may be taken with these done marks: a running instance that doesn't end has more than this tick of its time left.
abbrev pub Allowed : Plan → Moment → (ℕ → Bool) → Type 0
Allowed P m done = (r : ℕ) → r < P.rows → runs P m r ≡ true → done (P.processor r) ≡ false → suc (m.used r) < P.cost r

-- What an arrival of row f does to row r: one more release and a guard one period ahead if it is row f, and else nothing.
pub data Entry (P : Plan) (m n : Moment) (f r : ℕ) : Type 0 where
  this : r ≡ f → n.released r ≡ suc (m.released r) → n.guard r ≡ m.clock + P.period r → Entry P m n f r
  other : n.released r ≡ m.released r → n.guard r ≡ m.guard r → Entry P m n f r

-- What an arrival of row f does: the clock, the work and every other row stay.
pub record Arrived (P : Plan) (m n : Moment) (f : ℕ) : Type 0 where
  pub clock : n.clock ≡ m.clock
  pub completed : (r : ℕ) → n.completed r ≡ m.completed r
  pub used : (r : ℕ) → n.used r ≡ m.used r
  pub here : (n.released f ≡ suc (m.released f)) × (n.guard f ≡ m.clock + P.period f)
  pub others : (r : ℕ) → (r ≡ f → ⊥) → (n.released r ≡ m.released r) × (n.guard r ≡ m.guard r)

-- The two moments say the same of the plan's rows.
pub record Same (P : Plan) (m n : Moment) : Type 0 where
  pub clock : n.clock ≡ m.clock
  pub released : (r : ℕ) → r < P.rows → n.released r ≡ m.released r
  pub completed : (r : ℕ) → r < P.rows → n.completed r ≡ m.completed r
  pub used : (r : ℕ) → r < P.rows → n.used r ≡ m.used r
  pub guard : (r : ℕ) → r < P.rows → n.guard r ≡ m.guard r
