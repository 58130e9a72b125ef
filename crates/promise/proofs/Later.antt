-- Runs with no log: one is made as the run goes.
use Rattle.std.specs.Prelude.{ℕ, suc, ◌+◌, ◌≤◌, ◌<◌, ◌≡◌, refl, cond, eqb}
use Rattle.std.proofs.Common.{sym, ◌∙◌, arith, eq-eqb, ne_eqb}
use Rattle.facts.specs.Sums.{sum}
use Rattle.table.specs.Plan.{Plan}
use Rattle.table.specs.PlanLaws.{Right}
use Rattle.guards.specs.Moment.{Moment}
use Rattle.guards.specs.Machine.{start}
use Rattle.equations.specs.Safe.{Safe}
use Rattle.promise.specs.Chain.{Chain}
use Rattle.promise.proofs.Chain.{chain_ended}
use Rattle.promise.specs.Runs.{Next, Run}
use Rattle.promise.proofs.Runs.{grows, run_holds}
use Rattle.promise.specs.Later.{Later}

pub later_later : {P : Plan} {m n o : Moment} → Later P m n → Later P n o → Later P m o
later_later u Later.now = u
later_later u (Later.then s x) = Later.then (later_later u s) x

-- Two logs agree on the releases up to m.
Agree : Plan → Moment → (ℕ → ℕ → ℕ) → (ℕ → ℕ → ℕ) → Type 0
Agree P m A B = (f : ℕ) → f < P.rows → (i : ℕ) → i ≤ m.released f → A f i ≡ B f i

-- They are logs of the same runs.
relog : {P : Plan} {A B : ℕ → ℕ → ℕ} {m : Moment} → Run P A m → Agree P m A B → Run P B m
unfolding Agree
relog Run.started h = Run.started
relog (Run.goes u x noted) h =
    Run.goes (relog u (λ f l i d. h f l i (omega (arith, grows x f l)))) x
    (λ f l e q. sym (h f l _ (omega (arith, q))) ∙ noted f l e q)

-- The log with the releases of a step from m that ends at clock t.
noting : (ℕ → ℕ → ℕ) → Moment → ℕ → ℕ → ℕ → ℕ
noting A m t f i = cond (eqb i (suc (m.released f))) t (A f i)

noting_here : (A : ℕ → ℕ → ℕ) (m : Moment) (t f : ℕ) → noting A m t f (suc (m.released f)) ≡ t
unfolding noting
noting_here A m t f = rw (eq-eqb (suc (m.released f)) (suc (m.released f)) refl)

noting_else : (A : ℕ → ℕ → ℕ) (m : Moment) (t f i : ℕ) → i ≤ m.released f → noting A m t f i ≡ A f i
unfolding noting
noting_else A m t f i h = rw (ne_eqb i (suc (m.released f)) (λ e. omega arith))

note : {P : Plan} {A : ℕ → ℕ → ℕ} {m n : Moment} → Run P A m → Next P m n → Run P (noting A m n.clock) n
unfolding Agree
note {P} {A} {m} {n} u x =
    Run.goes (relog u (λ f l i d. sym (noting_else A m n.clock f i d))) x (λ f l e q. noting_here A m n.clock f)

-- A log of the run to n that agrees with A up to m.
record Logged (P : Plan) (A : ℕ → ℕ → ℕ) (m n : Moment) : Type 0 where
  log : ℕ → ℕ → ℕ
  run : Run P log n
  agree : Agree P m A log
  grown : (f : ℕ) → f < P.rows → m.released f ≤ n.released f

logged : {P : Plan} {A : ℕ → ℕ → ℕ} {m n : Moment} → Run P A m → Later P m n → Logged P A m n
unfolding Agree
logged {A = A} u Later.now = record { log = A; run = u; agree = λ f l i d. refl; grown = λ f l. omega arith }
logged {P} {A} {m} u (Later.then {n} {o} s x) = go (logged u s)
  where
    go : Logged P A m n → Logged P A m o
    go z = record {
      log = noting z.log n o.clock;
      run = note z.run x;
      agree = λ f l i d. z.agree f l i d ∙ sym (noting_else z.log n o.clock f i (omega (arith, z.grown f l)));
      grown = λ f l. omega (arith, z.grown f l, grows x f l);
    }

-- From the start the machine has come to m, and its next step, to n, releases an instance of a chain's first row a. It goes
-- on to o. If the sum of the bounds of the chain's rows has passed by then, that instance has ended at the chain's last row.
pub release_ends :
    {P : Plan} → Right P → {R : ℕ → ℕ} → ((r : ℕ) → r < P.rows → Safe P r (R r)) → (a d : ℕ) → Chain P a d
    → {m n o : Moment} → Later P start m → Next P m n → n.released a ≡ suc (m.released a) → Later P n o
    → n.clock + sum (suc d) (λ j. R (a + j)) ≤ o.clock → n.released a ≤ o.completed (a + d)
unfolding Agree
release_ends {P} ok {R} safe a d c {m} {n} {o} before x here after late = go (logged (note first.run x) after)
  where
    first : Logged P (λ f i. 0) start m
    first = logged Run.started before

    la : a < P.rows
    la = omega (arith, c.inside)

    go : Logged P (noting first.log m n.clock) n o → n.released a ≤ o.completed (a + d)
    go z =
        let q : z.log a (suc (m.released a)) ≡ n.clock = sym (z.agree a la (suc (m.released a)) (omega arith)) ∙ noting_here first.log m n.clock a in
        rw here
        (chain_ended ok safe (run_holds ok safe z.run) a d (suc (m.released a)) c (omega (arith, z.grown a la)) (omega arith))
