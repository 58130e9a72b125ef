-- The window of a row: what holds of it after every call, since its level was last without an open row.
use Rattle.std.specs.Prelude.{ℕ, suc, ◌+◌, ◌*◌, ◌-◌, ◌≤◌, ◌<◌, ◌≡◌}
use Rattle.std.proofs.Common.{sym, subst, mul-le-mul_right}
use native.Mathlib.Omega.{arith, by_contra}
use Rattle.std.proofs.Math.Decide.{dec_le}
use Rattle.table.specs.Plan.{Plan}
use Rattle.guards.specs.Moment.{Moment}
use Rattle.guards.specs.FitsLaws.{Fits}
use Rattle.equations.specs.Beside.{demand}
use Rattle.equations.specs.Safe.{Safe}
use Rattle.promise.specs.Level.{Level}
use Rattle.promise.proofs.Level.{level_self}
use Rattle.promise.specs.Window.{Window}

-- Where the guard of a row of the level is at most t, not before the clock, one more release at t is a period after the last.
pub room_for_one :
    {P : Plan} {due : ℕ → ℕ → ℕ} {m : Moment} {r : ℕ} (w : Window P due m r) (t : ℕ) → m.clock ≤ t
    → (k : ℕ) → k < P.rows → Level P r k → m.guard k ≤ t
    → w.start + m.released k * P.period k ≤ t + w.base k * P.period k
room_for_one {P} {due} {m} {r} w t now k l v h = go (dec_le (m.released k) (w.base k))
  where
    go : Dec (m.released k ≤ w.base k) → w.start + m.released k * P.period k ≤ t + w.base k * P.period k
    go (yes d) = omega (arith, mul-le-mul_right (P.period k) d, w.begun)
    go (no d) = omega (arith, w.spaced k l v (omega arith))

-- An open instance of a row with a window is in time, by a safe bound R.
module _ {P : Plan} {due : ℕ → ℕ → ℕ} {m : Moment} (fits : Fits P m) {r R : ℕ} (l : r < P.rows) (safe : Safe P r R)
    (w : Window P due m r) where
  -- For instance k of the window, counted from 0.
  in_time_at :
      (k : ℕ) → m.completed r < suc (w.base r + k) → suc (w.base r + k) ≤ m.released r
      → m.clock < due r (suc (w.base r + k)) + R
  in_time_at k lo hi = go (safe.ends k short)
    where
      in_window : w.start + k * P.period r ≤ m.clock
      in_window =
          omega (arith, mul-le-mul_right (P.period r) hi, w.spaced r l (level_self P r) (omega arith), (fits.row r l).near)

      short : k * P.period r < safe.length
      short =
          by_contra (suc (k * P.period r)) safe.length
          (λ h. omega (arith, safe.closes, w.full safe.length safe.positive (omega (arith, in_window))))

      go :
          (y : ℕ) × (0 < y) × (suc k * P.cost r + demand P r y ≤ y) × (y ≤ R + k * P.period r)
          → m.clock < due r (suc (w.base r + k)) + R
      go (y, py, hy, ly) =
          by_contra (suc m.clock) (due r (suc (w.base r + k)) + R)
          (λ h. omega (
            arith,
            hy,
            mul-le-mul_right (P.cost r) lo,
            w.behind y py (omega (arith, ly, w.early (suc (w.base r + k)) lo hi)),
          ))

  pub in_time : (i : ℕ) → m.completed r < i → i ≤ m.released r → m.clock < due r i + R
  in_time i lo hi =
      let e : i ≡ suc (w.base r + (i - suc (w.base r))) = omega (arith, w.based r l (level_self P r)) in
      subst (λ j. m.clock < due r j + R) (sym e) (in_time_at (i - suc (w.base r)) (rw e at lo) (rw e at hi))
