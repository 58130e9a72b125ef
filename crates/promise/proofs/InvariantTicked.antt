-- A tick keeps what holds.
use Rattle.std.specs.Prelude.{ℕ, zero, suc, ◌+◌, ◌≤◌, ◌<◌, ◌≡◌, true, false}
use Rattle.std.proofs.Common.{arith}
use Rattle.std.proofs.Math.Decide.{dec_le}
use Rattle.facts.specs.TestsLaws.{clash}
use Rattle.table.specs.Plan.{Plan}
use Rattle.table.specs.PlanLaws.{Right}
use Rattle.table.specs.Refusals.{last_clock}
use Rattle.guards.specs.Moment.{Moment}
use Rattle.guards.specs.Seam.{Work, Gate, Ticked}
use Rattle.guards.specs.FitsKept.{fits_ticked}
use Rattle.equations.specs.Safe.{Safe}
use Rattle.promise.specs.Window.{Punctual}
use Rattle.promise.proofs.WindowTicked.{window_ticked}
use Rattle.promise.specs.Due.{due}
use Rattle.promise.proofs.Due.{due_next}
use Rattle.promise.specs.Invariant.{Log, Held, Invariant}
use Rattle.promise.proofs.Invariant.{next_apart, on_time}

module _ {P : Plan} (ok : Right P) {R : ℕ → ℕ} (safe : (r : ℕ) → r < P.rows → Safe P r (R r)) {A : ℕ → ℕ → ℕ}
    {m : Moment} (v : Invariant P R A m) {n : Moment} (t : Ticked P m n) where
  -- A release of row r + 1 comes when the row before has completed that instance in this tick, in time; or it has waited
  -- for its guard.
  let_go_punctual :
      (r : ℕ) → suc r < P.rows → P.first (suc r) ≡ false → m.released (suc r) < n.completed r
      → n.clock ≤ due P R A (suc r) (suc (m.released (suc r)))
  let_go_punctual r l e h = by (dec_le (m.completed r) (m.released (suc r)))
    where
      lr : r < P.rows
      lr = omega arith

      i : ℕ
      i = suc (m.released (suc r))

      by : Dec (m.completed r ≤ m.released (suc r)) → n.clock ≤ due P R A (suc r) i
      by (yes d) = go (t.work r lr)
        where
          go : Work P m n r → n.clock ≤ due P R A (suc r) i
          go (Work.kept a b) = absurd (omega arith)
          go (Work.ran a b c g) = absurd (omega arith)
          go (Work.ended a b c) =
              omega (arith, t.clock, due_next P R A r i e, on_time ok v safe r lr i (omega arith) (omega arith))
      by (no d) =
          let late : m.clock < m.guard (suc r) = (v.fits.row (suc r) l).waits e (omega arith) in
          omega (
            arith,
            t.clock,
            v.held r l e late,
            next_apart ok v r l e (m.released (suc r)) (v.held r l e late).0 (omega (arith, (v.fits.row r lr).order)),
          )

  punctual : (r : ℕ) → r < P.rows → Punctual (due P R A) m n r
  punctual r l h = go r l h (t.gate r l)
    where
      go :
          (r : ℕ) → r < P.rows → n.released r ≡ suc (m.released r) → Gate P m n r
          → n.clock ≤ due P R A r (suc (m.released r))
      go r l h (Gate.kept a b c) = absurd (omega arith)
      go r l h (Gate.lowered a q b c d) = absurd (omega arith)
      go zero l h (Gate.lets_go a b c d e) = absurd (clash ok.first_zero a)
      go (suc r) l h (Gate.lets_go a b c d e) = let_go_punctual r l a b

  -- A tick does nothing to the gate of a first row.
  first_stays : (f : ℕ) → P.first f ≡ true → Gate P m n f → (n.released f ≡ m.released f) × (n.guard f ≡ m.guard f)
  first_stays f e (Gate.kept a b c) = (a, b)
  first_stays f e (Gate.lowered a q b c d) = absurd (clash e a)
  first_stays f e (Gate.lets_go a b c d g) = absurd (clash e a)

  log_ticked : Log P A n
  log_ticked = record {
    apart = λ f l e i p h. v.log.apart f l e i p (omega (arith, first_stays f e (t.gate f l)));
    closes = λ f l e h. closes f l e h (first_stays f e (t.gate f l));
  }
    where
      closes :
          (f : ℕ) → f < P.rows → P.first f ≡ true → 0 < n.released f
          → (n.released f ≡ m.released f) × (n.guard f ≡ m.guard f)
          → A f (n.released f) + P.period f ≤ n.guard f
      closes f l e h (a, b) = rw (a, b) (v.log.closes f l e (omega arith))

  held : (k : ℕ) → suc k < P.rows → P.first (suc k) ≡ false → Gate P m n (suc k) → Held P (due P R A) n (suc k)
  held k l e (Gate.kept a b c) h = rw (a, b) (v.held k l e (omega (arith, t.clock)))
  held k l e (Gate.lowered a q b c d) h = absurd (omega arith)
  held k l e (Gate.lets_go a b c d g) h = rw (c, d) (omega arith, omega (arith, punctual (suc k) l c))

  pub invariant_ticked : m.clock < last_clock → Invariant P R A n
  invariant_ticked h = record {
    fits = fits_ticked ok v.fits t h;
    log = log_ticked;
    held = λ k l e. held k l e (t.gate (suc k) l);
    window = λ r l. window_ticked ok v.fits t (due P R A) l (punctual r l) (v.window r l);
  }
