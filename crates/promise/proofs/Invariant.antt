-- What holds after every call of a run, and what it says of one moment.
use Rattle.std.specs.Prelude.{ℕ, zero, suc, ◌+◌, ◌≤◌, ◌<◌, ◌≡◌, refl, Bool, true, false}
use Rattle.std.proofs.Common.{add-zero, add-suc, arith}
use Rattle.table.specs.Plan.{Plan}
use Rattle.table.specs.PlanLaws.{Right}
use Rattle.guards.specs.Moment.{Moment}
use Rattle.equations.specs.Safe.{Safe}
use Rattle.promise.proofs.Window.{in_time}
use Rattle.promise.specs.Due.{due}
use Rattle.promise.proofs.Due.{due_first, due_next}
use Rattle.promise.specs.Invariant.{Invariant}

module _ {P : Plan} (ok : Right P) {R : ℕ → ℕ} {A : ℕ → ℕ → ℕ} {m : Moment} (v : Invariant P R A m) where
  -- Instances of a row are due a period apart,
  due_apart : (r : ℕ) → r < P.rows → (i : ℕ) → 0 < i → i < m.released r → due P R A r i + P.period r ≤ due P R A r (suc i)
  due_apart zero l i p h =
      rw (due_first P R A 0 i ok.first_zero, due_first P R A 0 (suc i) ok.first_zero)
      (v.log.apart 0 l ok.first_zero i p h)
  due_apart (suc r) l i p h = go (P.first (suc r)) refl (λ q. due_apart r (omega arith) i p q)
    where
      go :
          (b : Bool) → P.first (suc r) ≡ b
          → (i < m.released r → due P R A r i + P.period r ≤ due P R A r (suc i))
          → due P R A (suc r) i + P.period (suc r) ≤ due P R A (suc r) (suc i)
      go true e ih =
          rw (due_first P R A (suc r) i e, due_first P R A (suc r) (suc i) e) (v.log.apart (suc r) l e i p h)
      go false e ih =
          omega (
            arith,
            due_next P R A r i e,
            due_next P R A r (suc i) e,
            ok.chained r l e,
            ih (omega (arith, (v.fits.row (suc r) l).after e, (v.fits.row r (omega arith)).order)),
          )

  -- also those that the row before has released and this row not yet,
  pub next_apart :
      (r : ℕ) → suc r < P.rows → P.first (suc r) ≡ false → (i : ℕ) → 0 < i → i < m.released r
      → due P R A (suc r) i + P.period (suc r) ≤ due P R A (suc r) (suc i)
  next_apart r l e i p h =
      omega (
        arith,
        due_next P R A r i e,
        due_next P R A r (suc i) e,
        ok.chained r l e,
        due_apart r (omega arith) i p h,
      )

  -- and so in order.
  pub next_mono :
      (r : ℕ) → suc r < P.rows → P.first (suc r) ≡ false → (i d : ℕ) → 0 < i → i + d ≤ m.released r
      → due P R A (suc r) i ≤ due P R A (suc r) (i + d)
  next_mono r l e i zero p h = rw (add-zero i) (omega arith)
  next_mono r l e i (suc d) p h =
      rw (add-suc i d)
      (omega (arith, next_mono r l e i d p (omega arith), next_apart r l e (i + d) (omega arith) (omega arith)))

  -- An open instance is in time.
  pub on_time :
      ((r : ℕ) → r < P.rows → Safe P r (R r)) → (r : ℕ) → r < P.rows → (i : ℕ) → m.completed r < i
      → i ≤ m.released r → m.clock < due P R A r i + R r
  on_time safe r l = in_time v.fits l (safe r l) (v.window r l)
