-- When a state fits a plan (document 01, "Guards": "A state fits a plan if ..").
use Rattle.std.specs.Prelude.{ℕ, pred, ◌+◌, Bool, cond, not, ◌&&◌, ◌||◌, leb, ltb, eqb}
use Rattle.facts.specs.Tests.{all}
use Rattle.table.specs.Plan.{Plan}
use Rattle.table.specs.Refusals.{last_clock}
use Rattle.guards.specs.Moment.{Moment}
use Rattle.guards.specs.Running.{is_open}

-- What is asked of a first row: with released = clock + 1, guard > clock.
unfoldable pub first_fits : Moment → ℕ → Bool
first_fits m r = not (eqb (m.released r) (m.clock + 1)) || ltb m.clock (m.guard r)

-- What is asked of a row that isn't first: released at most the preceding row's completed, and if less, guard > clock.
unfoldable pub later_fits : Moment → ℕ → Bool
later_fits m r =
    leb (m.released r) (m.completed (pred r))
    && (not (ltb (m.released r) (m.completed (pred r))) || ltb m.clock (m.guard r))

-- Row r fits: completed ≤ released ≤ clock + 1; used < time; used is 0 where nothing is open; guard ≤ clock + period; and
-- what is asked of a first row or of one that isn't.
unfoldable pub row_fits : Plan → Moment → ℕ → Bool
row_fits P m r =
    leb (m.completed r) (m.released r)
    && (leb (m.released r) (m.clock + 1)
    && (ltb (m.used r) (P.cost r)
    && ((is_open m r || eqb (m.used r) 0)
    && (leb (m.guard r) (m.clock + P.period r)
    && cond (P.first r) (first_fits m r) (later_fits m r)))))

-- The clock is in its limit, and every row of the plan fits.
unfoldable pub fits : Plan → Moment → Bool
fits P m = leb m.clock last_clock && all P.rows (row_fits P m)
