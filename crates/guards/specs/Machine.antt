-- What the calls do to the rows (document 01, "Guards").
use Rattle.std.specs.Prelude.{ℕ, pred, ◌+◌, Bool, cond, not, ◌&&◌, leb, ltb, eqb}
use Rattle.facts.specs.Tests.{all}
use Rattle.table.specs.Plan.{Plan}
use Rattle.guards.specs.Moment.{Moment}
use Rattle.guards.specs.Running.{is_open, runs}

-- All start at 0.
unfoldable pub start : Moment
start = record { clock = 0; released = λ r. 0; completed = λ r. 0; used = λ r. 0; guard = λ r. 0 }

-- An arrival releases one instance of the first row f, and sets its guard to the clock plus its period.
unfoldable pub arrived : Plan → Moment → ℕ → Moment
arrived P m f = record {
  clock = m.clock;
  released = λ r. cond (eqb r f) (m.released r + 1) (m.released r);
  completed = m.completed;
  used = m.used;
  guard = λ r. cond (eqb r f) (m.clock + P.period r) (m.guard r);
}

-- Steps 1 to 3: the row that runs on each processor uses one tick; where done, its instance completes and its used ticks
-- return to 0; the clock moves on.
unfoldable pub worked : Plan → Moment → (ℕ → Bool) → Moment
worked P m done = record {
  clock = m.clock + 1;
  released = m.released;
  completed = λ r. cond (runs P m r && done (P.processor r)) (m.completed r + 1) (m.completed r);
  used = λ r. cond (runs P m r) (cond (done (P.processor r)) 0 (m.used r + 1)) (m.used r);
  guard = m.guard;
}

-- A processor with no open instance.
unfoldable pub idle : Plan → Moment → ℕ → Bool
idle P m processor = all P.rows (λ r. not (eqb (P.processor r) processor && is_open m r))

-- Step 4: on each processor with no open instance, every row that isn't the first of its chain gets the clock for guard.
unfoldable pub opened : Plan → Moment → Moment
opened P m = record {
  clock = m.clock;
  released = m.released;
  completed = m.completed;
  used = m.used;
  guard = λ r. cond (not (P.first r) && idle P m (P.processor r)) m.clock (m.guard r);
}

-- Step 5 releases row r: it isn't first, its preceding row has completed more than it has released, and its guard is at
-- most the clock.
unfoldable pub due : Plan → Moment → ℕ → Bool
due P m r = not (P.first r) && (ltb (m.released r) (m.completed (pred r)) && leb (m.guard r) m.clock)

-- Step 5: each such row releases one instance, and its guard becomes the clock plus its period.
unfoldable pub let_go : Plan → Moment → Moment
let_go P m = record {
  clock = m.clock;
  released = λ r. cond (due P m r) (m.released r + 1) (m.released r);
  completed = m.completed;
  used = m.used;
  guard = λ r. cond (due P m r) (m.clock + P.period r) (m.guard r);
}

-- The rows after steps 1 to 4 of a tick, before step 5.
unfoldable pub before_release : Plan → Moment → (ℕ → Bool) → Moment
before_release P m done = opened P (worked P m done)

-- A tick: steps 1 to 5 in order.
unfoldable pub ticked : Plan → Moment → (ℕ → Bool) → Moment
ticked P m done = let_go P (before_release P m done)
