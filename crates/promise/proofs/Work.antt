-- The work of a tick.
use Prim.Native.Nat.{ℕ, suc, ◌+◌, ◌*◌, ◌≤◌, ◌<◌}
use Rattle.std.specs.Prelude.{◌⊎◌, Bool, ltb}
use Rattle.std.proofs.Common.{inl, inr, ltb-true, lt-ltb}
use Rattle.std.proofs.Math.Nat.{mul-le-mul_right}
use native.Mathlib.Omega.{arith, by_contra}
use Rattle.std.proofs.Math.Decide.{dec_le}
use Rattle.table.specs.Plan.{Plan}
use Rattle.table.specs.PlanLaws.{Right}
use Rattle.guards.specs.Moment.{Moment}
use Rattle.guards.specs.RunningLaws.{Found, best_found}
use Rattle.guards.specs.Seam.{Work, Moved, Ticked}
use Rattle.guards.specs.FitsLaws.{Fits}
use Rattle.guards.specs.FitsKept.{worked_within, worked_order, worked_settled}
use Rattle.promise.specs.Window.{work}
use Rattle.promise.specs.Work.{LevelOpen, LevelQuiet}

-- One or the other.
pub level_open : (P : Plan) (m n : Moment) (r : ℕ) → LevelOpen P m n r ⊎ LevelQuiet P m n r
level_open P m n r = go (best_found P still_open (P.processor r) P.rows)
  where
    still_open : ℕ → Bool
    still_open k = ltb (n.completed k) (m.released k)

    go : {s : ℕ} → Found P still_open (P.processor r) P.rows s → LevelOpen P m n r ⊎ LevelQuiet P m n r
    go (Found.none h) = inr (λ k l v. by_contra _ _ (λ a. h k l v.same (lt-ltb _ _ a)))
    go (Found.some j o) = by (dec_le (P.priority r) (P.priority j))
      where
        by : Dec (P.priority r ≤ P.priority j) → LevelOpen P m n r ⊎ LevelQuiet P m n r
        by (yes h) =
            inl (record { row = j; below = o.below; level = record { same = o.here; ahead = h }; still = ltb-true _ _ o.passes })
        by (no h) = inr (λ k lk v. by_contra _ _ (λ a. omega (arith, v.ahead, o.most k lk v.same (lt-ltb _ _ a))))

module _ {P : Plan} (ok : Right P) {m n : Moment} (fits : Fits P m) (t : Ticked P m n) where
  -- A tick takes no work away,
  pub work_le : (k : ℕ) → k < P.rows → work P m k ≤ work P n k
  unfolding work
  work_le k l = go (t.work k l)
    where
      go : Work P m n k → m.completed k * P.cost k + m.used k ≤ n.completed k * P.cost k + n.used k
      go (Work.kept a b) = rw (a, b) (omega arith)
      go (Work.ran a b c d) = rw (b, c) (omega arith)
      go (Work.ended a b c) = rw (b, c) (omega (arith, (fits.row k l).within))

  -- adds some to the row that gets it,
  pub work_lt : (k : ℕ) → k < P.rows → Moved m n k → work P m k < work P n k
  unfolding work
  work_lt k l (inl e) = rw e (omega (arith, (fits.row k l).within))
  work_lt k l (inr e) = rw (e.0, e.1) (omega arith)

  -- adds none beyond what was released,
  pub work_most : (k : ℕ) → k < P.rows → work P n k ≤ m.released k * P.cost k
  unfolding work
  work_most k l = go (dec_le (m.released k) (n.completed k))
    where
      go : Dec (m.released k ≤ n.completed k) → n.completed k * P.cost k + n.used k ≤ m.released k * P.cost k
      go (yes h) =
          omega (arith, worked_settled ok fits t k l h, mul-le-mul_right (P.cost k) (worked_order ok fits t k l).1)
      go (no h) = omega (arith, worked_within ok fits t k l, mul-le-mul_right (P.cost k) (more h))
        where
          more : (m.released k ≤ n.completed k → ⊥) → suc (n.completed k) ≤ m.released k
          more h = omega arith

  -- and leaves an open row with less than that.
  pub work_open : (k : ℕ) → k < P.rows → n.completed k < m.released k → work P n k < m.released k * P.cost k
  unfolding work
  work_open k l h = omega (arith, worked_within ok fits t k l, mul-le-mul_right (P.cost k) h)
