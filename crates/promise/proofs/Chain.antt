-- Along a chain: an instance whose bounds have passed has ended.
use Rattle.std.specs.Prelude.{ℕ, zero, suc, ◌+◌, ◌-◌, ◌≤◌, ◌<◌, ◌≡◌, false}
use Rattle.std.proofs.Common.{ap, add-zero, add-suc}
use native.Mathlib.Omega.{arith, by_contra}
use Rattle.std.proofs.Math.Decide.{dec_le}
use Rattle.facts.specs.Sums.{sum}
use Rattle.facts.specs.SumsLaws.{sum_none, sum_suc}
use Rattle.table.specs.Plan.{Plan}
use Rattle.table.specs.PlanLaws.{Right}
use Rattle.guards.specs.Moment.{Moment}
use Rattle.equations.specs.Safe.{Safe}
use Rattle.promise.specs.Due.{due}
use Rattle.promise.proofs.Due.{due_first, due_next}
use Rattle.promise.specs.Invariant.{Invariant}
use Rattle.promise.proofs.Invariant.{next_apart, next_mono, on_time}
use Rattle.promise.specs.Chain.{Chain}

pub shorter : {P : Plan} {a n : ℕ} → Chain P a (suc n) → Chain P a n
shorter c = record { inside = omega (arith, c.inside); starts = c.starts; goes_on = λ j d. c.goes_on j (omega arith) }

-- At the chain's last row an instance is due when the bounds of the rows before have passed since its arrival.
pub due_chain :
    (P : Plan) (R : ℕ → ℕ) (A : ℕ → ℕ → ℕ) (a n i : ℕ) → Chain P a n
    → due P R A (a + n) i ≡ A a i + sum n (λ j. R (a + j))
due_chain P R A a zero i c =
    rw (add-zero a) (omega (arith, due_first P R A a i c.starts, sum_none (λ j. R (a + j))))
due_chain P R A a (suc n) i c =
    rw (add-suc a n) (omega (
      arith,
      due_next P R A (a + n) i (c.goes_on n (omega arith)),
      due_chain P R A a n i (shorter c),
      sum_suc n (λ j. R (a + j)),
    ))

module _ {P : Plan} (ok : Right P) {R : ℕ → ℕ} (safe : (r : ℕ) → r < P.rows → Safe P r (R r)) {A : ℕ → ℕ → ℕ}
    {m : Moment} (v : Invariant P R A m) where
  -- A released instance has ended once its bound has passed.
  released_ended : (r : ℕ) → r < P.rows → (k : ℕ) → k ≤ m.released r → due P R A r k + R r ≤ m.clock → k ≤ m.completed r
  released_ended r l k h late = by_contra k (m.completed r) (λ b. omega (arith, on_time ok v safe r l k b h))

  -- One that the row before has completed has been released, unless the clock is before it is due.
  next_ended :
      (r : ℕ) → suc r < P.rows → P.first (suc r) ≡ false → (k : ℕ) → k ≤ m.completed r
      → due P R A (suc r) k + R (suc r) ≤ m.clock → k ≤ m.completed (suc r)
  next_ended r l e k done late = go (dec_le k (m.released (suc r)))
    where
      go : Dec (k ≤ m.released (suc r)) → k ≤ m.completed (suc r)
      go (yes d) = released_ended (suc r) l k d late
      go (no d) =
          let i : ℕ = m.released (suc r) in
          let shut : m.clock < m.guard (suc r) = (v.fits.row (suc r) l).waits e (omega arith) in
          let o : m.completed r ≤ m.released r = (v.fits.row r (omega arith)).order in
          let same : suc i + (k - suc i) ≡ k = omega arith in
          let on : due P R A (suc r) (suc i) ≤ due P R A (suc r) k = rw same at (next_mono ok v r l e (suc i) (k - suc i) (omega arith) (omega arith)) in
          absurd (omega (arith, v.held r l e shut, next_apart ok v r l e i (v.held r l e shut).0 (omega arith)))

  -- An instance that has arrived has ended at the chain's last row once the sum of the bounds has passed.
  pub chain_ended :
      (a n k : ℕ) → Chain P a n → k ≤ m.released a → A a k + sum (suc n) (λ j. R (a + j)) ≤ m.clock
      → k ≤ m.completed (a + n)
  chain_ended a zero k c h late =
      rw (add-zero a)
      (released_ended a (omega (arith, c.inside)) k h
      (omega (arith, due_first P R A a k c.starts, first_sum)))
    where
      first_sum : sum 1 (λ j. R (a + j)) ≡ R a
      first_sum =
          omega (arith, sum_suc 0 (λ j. R (a + j)), sum_none (λ j. R (a + j)), ap (λ (r : ℕ). R r) (add-zero a))
  chain_ended a (suc n) k c h late =
      let more : sum (suc (suc n)) (λ j. R (a + j)) ≡ sum (suc n) (λ j. R (a + j)) + R (a + suc n) = sum_suc (suc n) (λ j. R (a + j)) in
      let done : k ≤ m.completed (a + n) = chain_ended a n k (shorter c) h (omega arith) in
      let at_last : due P R A (a + suc n) k + R (a + suc n) ≤ m.clock = omega (arith, due_chain P R A a (suc n) k c) in
      rw (add-suc a n)
      (next_ended (a + n) (omega (arith, c.inside)) (c.goes_on n (omega arith)) k done (rw (add-suc a n) at at_last))
