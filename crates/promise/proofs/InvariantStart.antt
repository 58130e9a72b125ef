-- What holds at the start, and that it depends on the plan's rows alone.
use Rattle.std.specs.Prelude.{ℕ, suc, ◌*◌, ◌≤◌, ◌<◌}
use Rattle.std.proofs.Common.{arith}
use Rattle.table.specs.Plan.{Plan}
use Rattle.table.specs.PlanLaws.{Right}
use Rattle.guards.specs.Moment.{Moment}
use Rattle.guards.specs.Machine.{start}
use Rattle.guards.specs.Seam.{Same}
use Rattle.guards.specs.FitsKept.{fits_start, fits_same}
use Rattle.promise.proofs.Level.{total_mono}
use Rattle.promise.specs.Window.{work, Window}
use Rattle.promise.specs.Due.{due}
use Rattle.promise.specs.Invariant.{Log, Invariant}

module _ {P : Plan} (ok : Right P) (R : ℕ → ℕ) (A : ℕ → ℕ → ℕ) where
  window_start : (r : ℕ) → r < P.rows → Window P (due P R A) start r
  unfolding start
  window_start r l = record {
    start = 0;
    base = λ k. 0;
    begun = omega arith;
    based = λ k lk q. omega arith;
    worked = omega (arith, total_mono P r l {f = λ k. 0 * P.cost k} {g = work P start} (λ k lk q. omega arith));
    spaced = λ k lk q h. absurd (omega arith);
    early = λ i lo hi. absurd (omega arith);
    full = λ y p h. absurd (omega arith);
    behind = λ y p h. absurd (omega arith);
  }

  pub invariant_start : Invariant P R A start
  unfolding start
  invariant_start = record {
    fits = fits_start ok;
    log = record { apart = λ f l e i p h. absurd (omega arith); closes = λ f l e h. absurd (omega arith) };
    held = λ k l e h. absurd (omega arith);
    window = window_start;
  }

module _ {P : Plan} (ok : Right P) {R : ℕ → ℕ} {A : ℕ → ℕ → ℕ} {m n : Moment} (s : Same P m n) (v : Invariant P R A m) where
  log_same : Log P A n
  log_same = record {
    apart = λ f l e i p h. v.log.apart f l e i p (omega (arith, s.released f l));
    closes =
        λ f l e h. rw (s.released f l, s.guard f l) (v.log.closes f l e (omega (arith, s.released f l)));
  }

  same_work : (k : ℕ) → k < P.rows → work P m k ≤ work P n k
  unfolding work
  same_work k l = rw (s.completed k l, s.used k l) (omega arith)

  window_same : (r : ℕ) → r < P.rows → Window P (due P R A) n r
  window_same r l =
      let w : Window P (due P R A) m r = v.window r l in
      record {
        start = w.start;
        base = w.base;
        begun = omega (arith, w.begun, s.clock);
        based = λ k lk q. omega (arith, w.based k lk q, s.completed k lk);
        worked = omega (arith, s.clock, w.worked, total_mono P r l {f = work P m} {g = work P n} (λ k lk q. same_work k lk));
        spaced =
            λ k lk q h. rw (s.released k lk, s.guard k lk) (w.spaced k lk q (omega (arith, s.released k lk)));
        early = λ i lo hi. w.early i (omega (arith, s.completed r l)) (omega (arith, s.released r l));
        full = λ y p h. w.full y p (omega (arith, s.clock));
        behind = λ y p h. rw (s.completed r l) (w.behind y p (omega (arith, s.clock)));
      }

  pub invariant_same : Invariant P R A n
  invariant_same = record {
    fits = fits_same ok s v.fits;
    log = log_same;
    held =
        λ k l e h. rw (s.released (suc k) l, s.guard (suc k) l)
        (v.held k l e (omega (arith, s.clock, s.guard (suc k) l)));
    window = window_same;
  }
