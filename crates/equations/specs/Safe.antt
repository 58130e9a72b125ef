-- All that the guards' theorem asks of a row's bound.
use Rattle.std.specs.Prelude.{ℕ, suc, ◌+◌, ◌*◌, ◌≤◌, ◌<◌}
use Rattle.std.proofs.Common.{arith}
use Rattle.facts.specs.Rounding.{ceil}
use Rattle.facts.specs.RoundingLaws.{ceil_count}
use Rattle.facts.specs.LeastLaws.{Answer}
use Rattle.table.specs.Plan.{Plan}
use Rattle.table.specs.PlanLaws.{Right}
use Rattle.equations.specs.Row.{work, work_to, RowBounds}
use Rattle.equations.specs.RowLaws.{instance_answer}
use Rattle.equations.specs.Beside.{demand, row_of}
use Rattle.equations.specs.BesideLaws.{proper_of}

-- R is safe for row r: there is a length that its level's work cannot exceed, and for each instance that can begin within
-- it a limit on its end, at most R after its period began.
pub record Safe (P : Plan) (r R : ℕ) : Type 0 where
  pub length : ℕ
  pub positive : 0 < length
  pub closes : ceil length (P.period r) * P.cost r + demand P r length ≤ length
  pub ends : (k : ℕ) → k * P.period r < length → (y : ℕ) × (0 < y) × (suc k * P.cost r + demand P r y ≤ y) × (y ≤ R + k * P.period r)

-- A row's bound is safe.
pub bounds_safe : {P : Plan} → Right P → (r : ℕ) → r < P.rows → {D M R : ℕ} → RowBounds (row_of P r) D M R → Safe P r R
unfolding row_of work work_to
bounds_safe {P} ok r l {D} {M} {R} b =
    record { length = D; positive = b.busy.pos; closes = omega (arith, b.busy.answer); ends = ends }
  where
    ends : (k : ℕ) → k * P.period r < D → (y : ℕ) × (0 < y) × (suc k * P.cost r + demand P r y ≤ y) × (y ≤ R + k * P.period r)
    ends k h =
        let lt : k < ceil D (P.period r) = ceil_count (ok.period_pos r l) h in
        let a : Answer (work_to (row_of P r) k) D = instance_answer (proper_of ok r l) k b.busy lt in
        (a.value, a.least.pos, omega (arith, a.least.answer), omega (arith, b.bound.upper k (omega (arith, b.instances)) a.value a.least))
