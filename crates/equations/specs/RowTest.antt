-- A computed test of a row's numbers, for worked examples.
use Rattle.std.specs.Prelude.{◌≡◌, Bool, ◌&&◌}
use Rattle.std.proofs.Math.Path.{refl}
use Rattle.std.proofs.Math.Bool.{true}
use Prim.Native.Nat.{ℕ, zero, suc, max, ◌*◌, ◌-◌, ◌<◌}
use Rattle.std.proofs.Common.{arith, eqb-true}
use Rattle.std.proofs.Math.Dec.{eqb}
use Rattle.facts.specs.Rounding.{ceil}
use Rattle.facts.specs.Least.{Least, Unanswered}
use Rattle.facts.specs.LeastLaws.{Rising, iterate, iterate_least, iterate_none}
use Rattle.facts.specs.TestsLaws.{and_left, and_right}
use Rattle.equations.specs.Row.{Row, work, work_to, RowBounds}
use Rattle.equations.specs.RowLaws.{Proper, work_rising, work_to_rising, SoFar, none, some, greatest_more}

-- The answer that n rounds from 1 come to, and whether it is one.
unfoldable pub found : (ℕ → ℕ) → ℕ → ℕ
found f n = iterate f n 1

unfoldable pub settled : (ℕ → ℕ) → ℕ → Bool
settled f n = let t = found f n in eqb (f t) t

-- The greatest bound of the first M instances, and whether each of them has its answer.
unfoldable pub worst : Row → ℕ → ℕ → ℕ
worst q n zero = 0
worst q n (suc k) = max (worst q n k) (found (work_to q k) n - k * q.period)

unfoldable pub all_settled : Row → ℕ → ℕ → Bool
all_settled q n zero = true
all_settled q n (suc k) = all_settled q n k && settled (work_to q k) n

-- D, M and R are the row's numbers, found by n rounds for each equation.
unfoldable pub row_test : Row → ℕ → ℕ → ℕ → ℕ → Bool
row_test q n D M R =
    settled (work q) n && (eqb D (found (work q) n) && (eqb M (ceil D q.period) && (eqb R (worst q n M) && all_settled q n M)))

module _ {q : Row} (ok : Proper q) (n : ℕ) where
  settled_least : {f : ℕ → ℕ} → Rising f → settled f n ≡ true → Least f (found f n)
  unfolding settled found
  settled_least m t = iterate_least m n (eqb-true _ _ t)

  so_far : (M : ℕ) → all_settled q n M ≡ true → SoFar q M (worst q n M)
  unfolding all_settled worst
  so_far zero t = none refl refl
  so_far (suc M) t =
      some (greatest_more (so_far M (and_left (all_settled q n M) _ t)) (settled_least (work_to_rising ok M) (and_right (all_settled q n M) _ t)))

  -- What passes the test are the row's numbers.
  pub row_test_sound : (D M R : ℕ) → 0 < M → row_test q n D M R ≡ true → RowBounds q D M R
  unfolding row_test
  row_test_sound D M R pos t = go (so_far M t₄)
    where
      t₁ : eqb D (found (work q) n) && (eqb M (ceil D q.period) && (eqb R (worst q n M) && all_settled q n M)) ≡ true
      t₁ = and_right (settled (work q) n) _ t

      e_d : D ≡ found (work q) n
      e_d = eqb-true _ _ (and_left (eqb D (found (work q) n)) _ t₁)

      t₂ : eqb M (ceil D q.period) && (eqb R (worst q n M) && all_settled q n M) ≡ true
      t₂ = and_right (eqb D (found (work q) n)) _ t₁

      t₃ : eqb R (worst q n M) && all_settled q n M ≡ true
      t₃ = and_right (eqb M (ceil D q.period)) _ t₂

      e_r : R ≡ worst q n M
      e_r = eqb-true _ _ (and_left (eqb R (worst q n M)) _ t₃)

      t₄ : all_settled q n M ≡ true
      t₄ = and_right (eqb R (worst q n M)) _ t₃

      go : SoFar q M (worst q n M) → RowBounds q D M R
      go (none e z) = absurd (omega arith)
      go (some g) = record {
        busy = rw e_d (settled_least (work_rising ok) (and_left (settled (work q) n) _ t));
        instances = eqb-true _ _ (and_left (eqb M (ceil D q.period)) _ t₂);
        bound = rw e_r g;
      }

  -- n rounds that pass the limit show that there is no busy length up to it.
  pub no_busy_test : (limit : ℕ) → limit < found (work q) n → Unanswered (work q) limit
  unfolding found
  no_busy_test limit h = iterate_none (work_rising ok) n limit h
