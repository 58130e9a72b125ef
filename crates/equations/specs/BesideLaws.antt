-- Laws of the rows beside a row: a plan's rows have proper equations, tied rows share their work, and a plan that asks
-- for less has smaller numbers.
use Rattle.std.specs.Prelude.{◌≡◌, refl, true, false, not, ℕ, ◌*◌, ◌≤◌, ◌<◌, eqb}
use Rattle.std.proofs.Common.{sym, ◌∙◌, arith, eq-eqb, ne_eqb, le-leb}
use Rattle.std.proofs.Math.Path.{fun_ext}
use Rattle.std.proofs.Math.Nat.{mul-le-mul_right, mul-le-mul}
use Rattle.std.proofs.lemmas.Bool.{lt-leb}
use Rattle.facts.specs.Sums.{sum_if}
use Rattle.facts.specs.SumsLaws.{sum_if_mono, sum_if_mono₂, sum_if_ext, sum_if_without}
use Rattle.facts.specs.Rounding.{ceil}
use Rattle.facts.specs.RoundingLaws.{ceil_mono}
use Rattle.facts.specs.Least.{Least}
use Rattle.facts.specs.LeastLaws.{Answer}
use Rattle.table.specs.Plan.{Plan}
use Rattle.table.specs.PlanLaws.{Right}
use Rattle.equations.specs.Row.{work, RowBounds}
use Rattle.equations.specs.RowLaws.{Proper, Less, busy_less, row_bounds_less}
use Rattle.equations.specs.Beside.{level, beside, demand, row_of}

module _ {P : Plan} (ok : Right P) where
  pub demand_mono : (r t u : ℕ) → t ≤ u → demand P r t ≤ demand P r u
  unfolding demand
  demand_mono r t u h =
      sum_if_mono P.rows (beside P r)
      (λ k l b. mul-le-mul_right (P.cost k) (ceil_mono (ok.period_pos k l) (ok.period_pos k l) h (omega arith)))

  pub proper_of : (r : ℕ) → r < P.rows → Proper (row_of P r)
  unfolding row_of
  proper_of r l = record {
    period_pos = ok.period_pos r l;
    cost_pos = ok.cost_pos r l;
    others_mono = demand_mono r;
  }

-- The test, case by case.
pub beside_level : (P : Plan) (r k : ℕ) → P.processor k ≡ P.processor r → P.priority r ≤ P.priority k → beside P r k ≡ not (eqb k r)
unfolding beside level
beside_level P r k e h = rw (eq-eqb (P.processor k) (P.processor r) e, le-leb (P.priority r) (P.priority k) h)

pub beside_lower : (P : Plan) (r k : ℕ) → P.processor k ≡ P.processor r → P.priority k < P.priority r → beside P r k ≡ false
unfolding beside level
beside_lower P r k e h = rw (eq-eqb (P.processor k) (P.processor r) e, lt-leb (P.priority r) (P.priority k) h)

pub beside_away : (P : Plan) (r k : ℕ) → (P.processor k ≡ P.processor r → ⊥) → beside P r k ≡ false
unfolding beside level
beside_away P r k e = rw (ne_eqb (P.processor k) (P.processor r) e)

-- A row's work is that of its whole level, itself among them.
pub work_level : (P : Plan) (r t : ℕ) → r < P.rows → work (row_of P r) t ≡ sum_if P.rows (level P r) (λ k. ceil t (P.period k) * P.cost k)
unfolding work row_of demand beside level
work_level P r t l =
    let own : level P r r ≡ true = rw (eq-eqb (P.processor r) (P.processor r) refl, le-leb (P.priority r) (P.priority r) (omega arith)) in
    omega (arith, sum_if_without P.rows (level P r) (λ k. ceil t (P.period k) * P.cost k) r l own)

-- Rows r and s are tied: of one processor, with one priority.
pub record Tied (P : Plan) (r s : ℕ) : Type 0 where
  pub processor : P.processor r ≡ P.processor s
  pub priority : P.priority r ≡ P.priority s

-- Tied rows have one level, and so one work.
pub work_tied : (P : Plan) (r s t : ℕ) → r < P.rows → s < P.rows → Tied P r s → work (row_of P r) t ≡ work (row_of P s) t
unfolding level
work_tied P r s t lr ls e =
    work_level P r t lr
    ∙ sum_if_ext refl {b = level P r} {c = level P s} (λ k l. rw (e.processor, e.priority)) (λ k l. refl)
    ∙ sym (work_level P s t ls)

-- The plans have the same rows, as far as the bounds read them.
pub record SameRows (P Q : Plan) : Type 0 where
  pub rows : P.rows ≡ Q.rows
  pub period : (r : ℕ) → r < P.rows → P.period r ≡ Q.period r
  pub cost : (r : ℕ) → r < P.rows → P.cost r ≡ Q.cost r
  pub processor : (r : ℕ) → r < P.rows → P.processor r ≡ Q.processor r
  pub priority : (r : ℕ) → r < P.rows → P.priority r ≡ Q.priority r

pub row_same : {P Q : Plan} → SameRows P Q → (r : ℕ) → r < P.rows → row_of P r ≡ row_of Q r
unfolding row_of demand beside level
row_same {P} {Q} h r l =
    let others : demand P r ≡ demand Q r = fun_ext (λ t. sum_if_ext h.rows {b = beside P r} {c = beside Q r} (λ k lk. rw (h.processor r l, h.processor k lk, h.priority r l, h.priority k lk)) (λ k lk. rw (h.period k lk, h.cost k lk))) in
    rw (h.period r l, h.cost r l, others)

-- The first plan asks for no more than the second: no cost longer, no period shorter, on the same processors with the
-- same priorities.
pub record Lighter (P Q : Plan) : Type 0 where
  pub rows : P.rows ≡ Q.rows
  pub period : (r : ℕ) → r < P.rows → Q.period r ≤ P.period r
  pub cost : (r : ℕ) → r < P.rows → P.cost r ≤ Q.cost r
  pub processor : (r : ℕ) → r < P.rows → P.processor r ≡ Q.processor r
  pub priority : (r : ℕ) → r < P.rows → P.priority r ≡ Q.priority r

module _ {P Q : Plan} (ok_p : Right P) (ok_q : Right Q) (h : Lighter P Q) where
  q_row : {r : ℕ} → r < P.rows → r < Q.rows
  q_row l = omega (arith, h.rows)

  beside_same : (r k : ℕ) → r < P.rows → k < P.rows → beside P r k ≡ beside Q r k
  unfolding beside level
  beside_same r k l lk = rw (h.processor r l, h.processor k lk, h.priority r l, h.priority k lk)

  demand_lighter : (r t : ℕ) → r < P.rows → demand P r t ≤ demand Q r t
  unfolding demand
  demand_lighter r t lr =
      sum_if_mono₂ h.rows (beside P r) (beside Q r)
      (λ k l b. (rw (beside_same r k lr l) at b, mul-le-mul (ceil_mono (ok_p.period_pos k l) (ok_q.period_pos k (q_row l)) (omega arith) (h.period k l)) (h.cost k l)))

  module _ (r : ℕ) (l : r < P.rows) where
    row_lighter : Less (row_of P r) (row_of Q r)
    unfolding row_of
    row_lighter = record {
      period = h.period r l;
      cost = h.cost r l;
      others = λ t. demand_lighter r t l;
    }

    -- A row of the lighter plan has a busy length where the other's has one, and none of its numbers is larger.
    pub busy_lighter : {D : ℕ} → Least (work (row_of Q r)) D → Answer (work (row_of P r)) D
    busy_lighter = busy_less (proper_of ok_p r l) (proper_of ok_q r (q_row l)) row_lighter

    pub row_bounds_lighter : {D M R D' M' R' : ℕ} → RowBounds (row_of P r) D M R → RowBounds (row_of Q r) D' M' R' → (D ≤ D') × (M ≤ M') × (R ≤ R')
    row_bounds_lighter = row_bounds_less (proper_of ok_p r l) (proper_of ok_q r (q_row l)) row_lighter
