-- Which row runs on a processor (document 01, "Guards", step 1).
use Rattle.std.specs.Prelude.{ℕ, zero, suc, Bool, cond, ◌&&◌, ltb, eqb}
use Rattle.table.specs.Plan.{Plan}
use Rattle.guards.specs.Moment.{Moment}

-- Row r is open: it has an instance released and not completed.
unfoldable pub is_open : Moment → ℕ → Bool
is_open m r = ltb (m.completed r) (m.released r)

-- The better of the best row so far (0 for none, suc j for row j) and row r: the more urgent, and row r only if it is
-- strictly more urgent.
unfoldable pub better : Plan → ℕ → ℕ → ℕ
better P zero r = suc r
better P (suc j) r = cond (ltb (P.priority j) (P.priority r)) (suc r) (suc j)

-- Of the rows below n on the processor that pass the test, the one of greatest priority, the lowest number among equals.
unfoldable pub best : Plan → (ℕ → Bool) → ℕ → ℕ → ℕ
best P test processor zero = 0
best P test processor (suc r) =
    cond (eqb (P.processor r) processor && test r) (better P (best P test processor r) r) (best P test processor r)

-- The row that runs on the processor: 0 for none, suc j for row j.
unfoldable pub running : Plan → Moment → ℕ → ℕ
running P m processor = best P (is_open m) processor P.rows

-- Row r runs.
unfoldable pub runs : Plan → Moment → ℕ → Bool
runs P m r = eqb (running P m (P.processor r)) (suc r)
