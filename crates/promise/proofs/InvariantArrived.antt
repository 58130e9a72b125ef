-- An arrival keeps what holds.
use Rattle.std.specs.Prelude.{ℕ, suc, ◌+◌, ◌*◌, ◌≤◌, ◌<◌, ◌≡◌, true, false}
use Rattle.std.proofs.Common.{arith}
use Rattle.std.proofs.Math.Decide.{ℕ_discrete, dec_le}
use Rattle.table.specs.Plan.{Plan}
use Rattle.table.specs.PlanLaws.{Right}
use Rattle.guards.specs.Moment.{Moment}
use Rattle.guards.specs.Seam.{Entry, Arrived}
use Rattle.guards.specs.SeamLaws.{entry}
use Rattle.guards.specs.FitsKept.{fits_arrived, later_stays}
use Rattle.promise.specs.Level.{Level}
use Rattle.promise.proofs.Level.{level_self, total_mono}
use Rattle.promise.specs.Window.{work, Window}
use Rattle.promise.proofs.Window.{room_for_one}
use Rattle.promise.specs.Due.{due}
use Rattle.promise.proofs.Due.{due_first}
use Rattle.promise.specs.Invariant.{Log, Invariant}

module _ {P : Plan} (ok : Right P) {R : ℕ → ℕ} {A : ℕ → ℕ → ℕ} {m : Moment} (v : Invariant P R A m) {n : Moment} {f : ℕ}
    (first : P.first f ≡ true) (guard_due : m.guard f ≤ m.clock) (noted : A f (suc (m.released f)) ≡ m.clock)
    (a : Arrived P m n f) where
  later : (r : ℕ) → P.first r ≡ false → (n.released r ≡ m.released r) × (n.guard r ≡ m.guard r)
  later = later_stays ok v.fits first guard_due a

  log_arrived : Log P A n
  log_arrived = record { apart = λ k l e i p h. apart k l e i p h (entry a k); closes = λ k l e h. closes k l e h (entry a k) }
    where
      apart :
          (k : ℕ) → k < P.rows → P.first k ≡ true → (i : ℕ) → 0 < i → i < n.released k → Entry P m n f k
          → A k i + P.period k ≤ A k (suc i)
      apart k l e i p h (Entry.other x y) = v.log.apart k l e i p (omega arith)
      apart k l e i p h (Entry.this q x y) = go (ℕ_discrete i (m.released k))
        where
          go : Dec (i ≡ m.released k) → A k i + P.period k ≤ A k (suc i)
          go (no d) = v.log.apart k l e i p (omega arith)
          go (yes d) =
              let here : A k (suc (m.released k)) ≡ m.clock = rw q noted in
              let shut : m.guard k ≤ m.clock = rw q guard_due in
              rw d (omega (arith, v.log.closes k l e (omega arith)))

      closes :
          (k : ℕ) → k < P.rows → P.first k ≡ true → 0 < n.released k → Entry P m n f k
          → A k (n.released k) + P.period k ≤ n.guard k
      closes k l e h (Entry.this q x y) =
          let here : A k (suc (m.released k)) ≡ m.clock = rw q noted in
          rw (x, y) (omega arith)
      closes k l e h (Entry.other x y) = rw (x, y) (v.log.closes k l e (omega arith))

  module _ (r : ℕ) (l : r < P.rows) where
    w : Window P (due P R A) m r
    w = v.window r l

    spaced :
        (k : ℕ) → k < P.rows → Level P r k → w.base k < n.released k → Entry P m n f k
        → w.start + n.released k * P.period k ≤ n.guard k + w.base k * P.period k
    spaced k lk q h (Entry.this e x y) = rw (x, y) (omega (arith, room_for_one w m.clock (omega arith) k lk q (rw e guard_due)))
    spaced k lk q h (Entry.other x y) = rw (x, y) (w.spaced k lk q (omega arith))

    early :
        (i : ℕ) → m.completed r < i → i ≤ n.released r → Entry P m n f r
        → w.start + i * P.period r ≤ due P R A r i + P.period r + w.base r * P.period r
    early i lo hi (Entry.other x y) = w.early i lo (omega arith)
    early i lo hi (Entry.this e x y) = go (dec_le i (m.released r))
      where
        go : Dec (i ≤ m.released r) → w.start + i * P.period r ≤ due P R A r i + P.period r + w.base r * P.period r
        go (yes d) = w.early i lo d
        go (no d) =
            let ei : i ≡ suc (m.released r) = omega arith in
            let here : A r (suc (m.released r)) ≡ m.clock = rw e noted in
            rw ei (omega (
              arith,
              due_first P R A r (suc (m.released r)) (rw e first),
              room_for_one w m.clock (omega arith) r l (level_self P r) (rw e guard_due),
            ))

    same_work : (k : ℕ) → work P m k ≤ work P n k
    unfolding work
    same_work k = rw (a.completed k, a.used k) (omega arith)

    window_arrived : Window P (due P R A) n r
    window_arrived = record {
      start = w.start;
      base = w.base;
      begun = omega (arith, w.begun, a.clock);
      based = λ k lk q. omega (arith, w.based k lk q, a.completed k);
      worked = omega (arith, a.clock, w.worked, total_mono P r l {f = work P m} {g = work P n} (λ k lk q. same_work k));
      spaced = λ k lk q h. spaced k lk q h (entry a k);
      early = λ i lo hi. early i (omega (arith, a.completed r)) hi (entry a r);
      full = λ y p h. w.full y p (omega (arith, a.clock));
      behind = λ y p h. rw (a.completed r) (w.behind y p (omega (arith, a.clock)));
    }

  pub invariant_arrived : Invariant P R A n
  invariant_arrived = record {
    fits = fits_arrived ok v.fits first guard_due a;
    log = log_arrived;
    held = λ k l e h. rw ((later (suc k) e).0, (later (suc k) e).1) (v.held k l e (omega (arith, a.clock, later (suc k) e)));
    window = window_arrived;
  }
