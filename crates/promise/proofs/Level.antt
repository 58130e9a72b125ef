-- The level of a row, and sums over it.
use Rattle.std.specs.Prelude.{ℕ, ◌+◌, ◌*◌, ◌≤◌, ◌<◌, ◌≡◌, refl, Bool, true, false, not, ◌&&◌, T, leb, eqb}
use native.Mathlib.Omega.{arith}
use Rattle.std.proofs.Math.Decide.{ℕ_discrete}
use Rattle.std.proofs.Common.{leb-true, eqb-true, ne_eqb}
use Rattle.facts.specs.Sums.{sum_if}
use Rattle.facts.specs.SumsLaws.{sum_if_mono, sum_if_lt, sum_if_add}
use Rattle.facts.specs.Rounding.{ceil}
use Rattle.table.specs.Plan.{Plan}
use Rattle.equations.specs.Beside.{level, beside, demand}
use Rattle.equations.specs.BesideLaws.{beside_level as beside_of}
use Rattle.promise.specs.Level.{Level, total}

pub level_self : (P : Plan) (r : ℕ) → Level P r r
level_self P r = record { same = refl; ahead = omega arith }

beside_level : (P : Plan) (r k : ℕ) → T (beside P r k) → Level P r k
unfolding beside level
beside_level P r k = go (eqb (P.processor k) (P.processor r)) refl (leb (P.priority r) (P.priority k)) refl
  where
    go :
        (a : Bool) → eqb (P.processor k) (P.processor r) ≡ a → (b : Bool) → leb (P.priority r) (P.priority k) ≡ b
        → T ((a && b) && not (eqb k r)) → Level P r k
    go true ea true eb t = record { same = eqb-true _ _ ea; ahead = leb-true _ _ eb }
    go true ea false eb t = absurd t
    go false ea b eb t = absurd t

level_beside : (P : Plan) (r k : ℕ) → Level P r k → (k ≡ r → ⊥) → T (beside P r k)
level_beside P r k v n = rw (beside_of P r k v.same v.ahead, ne_eqb k r n) tt

module _ (P : Plan) (r : ℕ) (l : r < P.rows) {f g : ℕ → ℕ} (h : (k : ℕ) → k < P.rows → Level P r k → f k ≤ g k) where
  besides_mono : sum_if P.rows (beside P r) f ≤ sum_if P.rows (beside P r) g
  besides_mono = sum_if_mono P.rows (beside P r) (λ k lk b. h k lk (beside_level P r k b))

  pub total_mono : total P r f ≤ total P r g
  unfolding total
  total_mono = omega (arith, h r l (level_self P r), besides_mono)

  pub total_lt : (j : ℕ) → j < P.rows → Level P r j → f j < g j → total P r f < total P r g
  unfolding total
  total_lt j lj v s = go (ℕ_discrete j r)
    where
      go : Dec (j ≡ r) → f r + sum_if P.rows (beside P r) f < g r + sum_if P.rows (beside P r) g
      go (yes e) = omega (arith, rw e at s, besides_mono)
      go (no n) =
          omega (
            arith,
            h r l (level_self P r),
            sum_if_lt P.rows (beside P r) (λ k lk b. h k lk (beside_level P r k b)) j lj (level_beside P r j v n) s,
          )

pub total_add : (P : Plan) (r : ℕ) (f g : ℕ → ℕ) → total P r (λ k. f k + g k) ≡ total P r f + total P r g
unfolding total
total_add P r f g = omega (arith, sum_if_add P.rows (beside P r) f g)

-- What the level asks for in y ticks: row r's own part, and the demand of the rows beside it.
pub total_asked :
    (P : Plan) (r y : ℕ)
    → total P r (λ k. ceil y (P.period k) * P.cost k) ≡ ceil y (P.period r) * P.cost r + demand P r y
unfolding total demand
total_asked P r y = refl

-- Where each row of the level has at most b and what it asks for, the whole is at most row r's own part, the b of the rows
-- beside it and their demand.
pub total_own :
    (P : Plan) (r y : ℕ) (f b : ℕ → ℕ)
    → ((k : ℕ) → k < P.rows → Level P r k → f k ≤ b k + ceil y (P.period k) * P.cost k)
    → total P r f + b r ≤ f r + total P r b + demand P r y
unfolding total demand
total_own P r y f b h =
    omega (
      arith,
      sum_if_mono P.rows (beside P r) {f = f} {g = λ k. b k + ceil y (P.period k) * P.cost k} (λ k lk t. h k lk (beside_level P r k t)),
      sum_if_add P.rows (beside P r) b (λ k. ceil y (P.period k) * P.cost k),
    )
