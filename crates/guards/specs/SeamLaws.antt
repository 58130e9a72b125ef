-- The machine's tick and arrival do what the clauses say.
use Prim.Native.Nat.{ℕ, suc, pred, ◌+◌, ◌<◌}
use Rattle.std.specs.Prelude.{◌≡◌, ◌⊎◌, Bool, cond, not, ◌&&◌, ltb, eqb}
use Rattle.std.proofs.Math.Path.{refl}
use Rattle.std.proofs.Math.Logic.{inl, inr}
use Rattle.std.proofs.Math.Bool.{true, false}
use Rattle.std.proofs.Common.{arith}
use Rattle.std.proofs.Math.Decide.{ℕ_discrete}
use Rattle.std.proofs.Math.Numerals.{add-one}
use borrow.Author.Tests.{ltb-true, ltb-false, leb-true, leb-false, eq-eqb, ne_eqb, lt-ltb, le-leb}
use Rattle.std.proofs.Math.Dec.{leb}
use Rattle.facts.specs.TestsLaws.{clash, all_at}
use Rattle.table.specs.Plan.{Plan}
use Rattle.guards.specs.Moment.{Moment}
use Rattle.guards.specs.Running.{is_open, runs}
use Rattle.guards.specs.RunningLaws.{Running, running_is, goes_unique, goes_runs, runs_goes}
use Rattle.guards.specs.Machine.{arrived, worked, idle, opened, due, let_go, before_release, ticked}
use Rattle.guards.specs.Seam.{Open, Work, Quiet, Gate, Moved, Ticked, Allowed, Entry, Arrived, Same}

-- A processor that is idle after steps 1 to 3 is quiet.
idle_quiet :
    (P : Plan) (m : Moment) (done : ℕ → Bool) (r : ℕ)
    → idle P (worked P m done) (P.processor r) ≡ true → Quiet P m (worked P m done) r
unfolding idle is_open worked
idle_quiet P m done r e k l q =
    let n = worked P m done in
    let t : not (eqb (P.processor k) (P.processor r) && ltb (n.completed k) (n.released k)) ≡ true = all_at P.rows (λ k. not (eqb (P.processor k) (P.processor r) && is_open n k)) e k l in
    ltb-false _ _ (closed (eqb (P.processor k) (P.processor r)) (ltb (n.completed k) (n.released k)) (eq-eqb _ _ q) t)
  where
    closed : (a b : Bool) → a ≡ true → not (a && b) ≡ true → b ≡ false
    closed a true ea t = absurd (clash t (rw ea))
    closed a false ea t = refl

module _ (P : Plan) (m : Moment) (done : ℕ → Bool) where
  -- After a tick a row's work is as after its steps 1 to 3.
  ticked_moved : (r : ℕ) → Moved m (ticked P m done) r → runs P m r ≡ true
  unfolding ticked before_release let_go opened worked
  ticked_moved r = go (runs P m r)
    where
      go :
          (a : Bool)
          → (cond (a && done (P.processor r)) (m.completed r + 1) (m.completed r) ≡ suc (m.completed r))
          ⊎ ((cond (a && done (P.processor r)) (m.completed r + 1) (m.completed r) ≡ m.completed r)
          × (cond a (cond (done (P.processor r)) 0 (m.used r + 1)) (m.used r) ≡ suc (m.used r)))
          → a ≡ true
      go true w = refl
      go false (inl w) = absurd (omega arith)
      go false (inr w) = absurd (omega arith)

  ran_moved : (r : ℕ) → runs P m r ≡ true → Moved m (ticked P m done) r
  unfolding ticked before_release let_go opened worked
  ran_moved r e = go (done (P.processor r)) refl
    where
      go : (b : Bool) → done (P.processor r) ≡ b → Moved m (ticked P m done) r
      go true q = inl (rw (e, q) (add-one (m.completed r)))
      go false q = inr (rw (e, q), rw (e, q) (add-one (m.used r)))

  ticked_work : Allowed P m done → (r : ℕ) → r < P.rows → Work P m (ticked P m done) r
  unfolding ticked before_release let_go opened worked
  ticked_work ok r l = go (runs P m r) refl (done (P.processor r)) refl
    where
      go : (a : Bool) → runs P m r ≡ a → (b : Bool) → done (P.processor r) ≡ b → Work P m (ticked P m done) r
      go true ea true eb = Work.ended (runs_goes ea).row_open (rw (ea, eb) (add-one (m.completed r))) (rw (ea, eb))
      go true ea false eb =
          Work.ran (runs_goes ea).row_open (rw (ea, eb)) (rw (ea, eb) (add-one (m.used r))) (rw (ea, eb) (omega (arith, ok r l ea eb)))
      go false ea b eb = Work.kept (rw ea) (rw ea)

  ticked_gate : (r : ℕ) → Gate P m (ticked P m done) r
  unfolding ticked before_release let_go due opened worked
  ticked_gate r =
      go (P.first r) refl (idle P (worked P m done) (P.processor r)) refl
      (ltb (m.released r) ((worked P m done).completed (pred r))) refl (leb (m.guard r) (m.clock + 1)) refl
    where
      now : leb (m.clock + 1) (m.clock + 1) ≡ true
      now = le-leb (m.clock + 1) (m.clock + 1) (omega arith)

      go :
          (f : Bool) → P.first r ≡ f → (i : Bool) → idle P (worked P m done) (P.processor r) ≡ i
          → (b : Bool) → ltb (m.released r) ((worked P m done).completed (pred r)) ≡ b
          → (g : Bool) → leb (m.guard r) (m.clock + 1) ≡ g
          → Gate P m (ticked P m done) r
      go true ef i ei b eb g eg = Gate.kept (rw ef) (rw ef) (λ e. absurd (clash ef e))
      go false ef true ei true eb g eg =
          Gate.lets_go ef (ltb-true _ _ eb) (rw (ef, ei, eb, now) (add-one (m.released r))) (rw (ef, ei, eb, now)) (inr (idle_quiet P m done r ei))
      go false ef true ei false eb g eg =
          Gate.lowered ef (idle_quiet P m done r ei) (rw (ef, ei, eb)) (rw (ef, ei, eb)) (ltb-false _ _ eb)
      go false ef false ei true eb true eg =
          Gate.lets_go ef (ltb-true _ _ eb) (rw (ef, ei, eb, eg) (add-one (m.released r))) (rw (ef, ei, eb, eg)) (inl (leb-true _ _ eg))
      go false ef false ei true eb false eg =
          Gate.kept (rw (ef, ei, eb, eg)) (rw (ef, ei, eb, eg)) (λ e h. rw (ef, ei, eb, eg) (leb-false _ _ eg))
      go false ef false ei false eb g eg =
          Gate.kept (rw (ef, ei, eb)) (rw (ef, ei, eb)) (λ e h. absurd (clash (lt-ltb _ _ h) eb))

  ticked_busy :
      (r : ℕ) → r < P.rows → Open m r
      → (k : ℕ) × (k < P.rows) × (P.processor k ≡ P.processor r) × Moved m (ticked P m done) k
  ticked_busy r l h = go (running_is P m (P.processor r))
    where
      go :
          {s : ℕ} → Running P m (P.processor r) s
          → (k : ℕ) × (k < P.rows) × (P.processor k ≡ P.processor r) × Moved m (ticked P m done) k
      go (Running.none f) = absurd (omega (arith, f r l refl))
      go (Running.some k e g) = (k, g.row, e, ran_moved k (goes_runs g))

  pub ticked_is : Allowed P m done → Ticked P m (ticked P m done)
  unfolding ticked before_release let_go opened worked
  ticked_is ok = record {
    clock = add-one m.clock;
    work = ticked_work ok;
    gate = λ r l. ticked_gate r;
    busy = ticked_busy;
    turn = λ r l w. (runs_goes (ticked_moved r w)).most;
    once = λ i j li lj e v w. goes_unique (runs_goes (ticked_moved i v)) (runs_goes (ticked_moved j w)) e;
  }

pub arrived_is : (P : Plan) (m : Moment) (f : ℕ) → Arrived P m (arrived P m f) f
unfolding arrived
arrived_is P m f = record {
  clock = refl;
  completed = λ r. refl;
  used = λ r. refl;
  here = (rw (eq-eqb f f refl) (add-one (m.released f)), rw (eq-eqb f f refl));
  others = λ r n. (rw (ne_eqb r f n), rw (ne_eqb r f n));
}

pub entry : {P : Plan} {m n : Moment} {f : ℕ} → Arrived P m n f → (r : ℕ) → Entry P m n f r
entry {P} {m} {n} {f} a r = go (ℕ_discrete r f)
  where
    go : Dec (r ≡ f) → Entry P m n f r
    go (yes q) = Entry.this q (rw q a.here.0) (rw q a.here.1)
    go (no q) = Entry.other (a.others r q).0 (a.others r q).1

pub same_self : (P : Plan) (m : Moment) → Same P m m
same_self P m = record {
  clock = refl;
  released = λ r l. refl;
  completed = λ r l. refl;
  used = λ r l. refl;
  guard = λ r l. refl;
}
