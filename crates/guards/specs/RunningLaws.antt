-- The row that runs: it is open, no open row of its processor is more urgent, it has the lowest number among equals, and
-- these three leave one row.
use Prim.Native.Nat.{ℕ, zero, suc, ◌≤◌, ◌<◌}
use Rattle.std.specs.Prelude.{◌≡◌, Bool, cond, ◌&&◌}
use Rattle.std.proofs.Math.Path.{refl}
use Rattle.std.proofs.Common.{sym, subst, ◌∙◌}
use Rattle.std.proofs.Math.Bool.{true, false}
use native.Mathlib.Omega.{arith, by_contra}
use Rattle.std.proofs.Math.Decide.{ℕ_discrete}
use borrow.Author.Tests.{ltb-true, ltb-false, eqb-true, eqb-false, eq-eqb, lt-ltb}
use Rattle.std.proofs.Math.Dec.{ltb, eqb}
use Rattle.facts.specs.TestsLaws.{clash}
use Rattle.table.specs.Plan.{Plan}
use Rattle.guards.specs.Moment.{Moment}
use Rattle.guards.specs.Running.{is_open, better, best, running, runs}

-- C holds of each row below n on the processor that passes the test.
abbrev pub Each : Plan → (ℕ → Bool) → ℕ → ℕ → (ℕ → Type 0) → Type 0
Each P test processor n C = (k : ℕ) → k < n → P.processor k ≡ processor → test k ≡ true → C k

-- Row j is the foremost of the rows below n on the processor that pass the test: the most urgent, and the lowest number
-- among equals.
pub record Foremost (P : Plan) (test : ℕ → Bool) (processor n j : ℕ) : Type 0 where
  pub below : j < n
  pub here : P.processor j ≡ processor
  pub passes : test j ≡ true
  pub most : Each P test processor n (λ k. P.priority k ≤ P.priority j)
  pub lowest : Each P test processor n (λ k. P.priority k ≡ P.priority j → j ≤ k)

-- What a search among the rows below n finds: 0 for none, or suc j for the foremost row j.
pub data Found (P : Plan) (test : ℕ → Bool) (processor n : ℕ) : ℕ → Type 0 where
  none : Each P test processor n (λ k. ⊥) → Found P test processor n 0
  some : (j : ℕ) → Foremost P test processor n j → Found P test processor n (suc j)

module _ (P : Plan) (test : ℕ → Bool) (processor : ℕ) where
  each_more :
      {n : ℕ} (C : ℕ → Type 0) → Each P test processor n C → (P.processor n ≡ processor → test n ≡ true → C n)
      → Each P test processor (suc n) C
  each_more {n} C h c k l = go (ℕ_discrete k n)
    where
      go : Dec (k ≡ n) → P.processor k ≡ processor → test k ≡ true → C k
      go (yes e) = subst (λ i. P.processor i ≡ processor → test i ≡ true → C i) (sym e) c
      go (no e) = h k (omega arith)

  -- Row n is not one of those looked for.
  passed_over :
      {n s : ℕ} → (P.processor n ≡ processor → test n ≡ true → ⊥) → Found P test processor n s
      → Found P test processor (suc n) s
  passed_over f (none h) = none (each_more (λ k. ⊥) h f)
  passed_over f (some j o) =
      some j (record {
        below = omega (arith, o.below);
        here = o.here;
        passes = o.passes;
        most = each_more (λ k. P.priority k ≤ P.priority j) o.most (λ e t. absurd (f e t));
        lowest = each_more (λ k. P.priority k ≡ P.priority j → j ≤ k) o.lowest (λ e t. absurd (f e t));
      })

  -- Row n is one of them.
  looked_at :
      {n s : ℕ} → P.processor n ≡ processor → test n ≡ true → Found P test processor n s
      → Found P test processor (suc n) (better P s n)
  unfolding better
  looked_at {n} e t (none h) =
      some n (record {
        below = omega arith;
        here = e;
        passes = t;
        most = each_more (λ k. P.priority k ≤ P.priority n) (λ k l a b. absurd (h k l a b)) (λ a b. omega arith);
        lowest = each_more (λ k. P.priority k ≡ P.priority n → n ≤ k) (λ k l a b. absurd (h k l a b)) (λ a b q. omega arith);
      })
  looked_at {n} e t (some j o) = go (ltb (P.priority j) (P.priority n)) refl
    where
      go : (b : Bool) → ltb (P.priority j) (P.priority n) ≡ b → Found P test processor (suc n) (cond b (suc n) (suc j))
      go true q =
          let more : P.priority j < P.priority n = ltb-true _ _ q in
          some n (record {
            below = omega arith;
            here = e;
            passes = t;
            most = each_more (λ k. P.priority k ≤ P.priority n) (λ k l a b. omega (arith, o.most k l a b)) (λ a b. omega arith);
            lowest = each_more (λ k. P.priority k ≡ P.priority n → n ≤ k) (λ k l a b q. omega (arith, o.most k l a b)) (λ a b q. omega arith);
          })
      go false q =
          let no_more : P.priority n ≤ P.priority j = ltb-false _ _ q in
          some j (record {
            below = omega (arith, o.below);
            here = o.here;
            passes = o.passes;
            most = each_more (λ k. P.priority k ≤ P.priority j) o.most (λ a b. no_more);
            lowest = each_more (λ k. P.priority k ≡ P.priority j → j ≤ k) o.lowest (λ a b q. omega (arith, o.below));
          })

  pub best_found : (n : ℕ) → Found P test processor n (best P test processor n)
  unfolding best
  best_found zero = none (λ k l e t. omega arith)
  best_found (suc n) = go (eqb (P.processor n) processor) (test n) refl refl (best_found n)
    where
      go :
          (a b : Bool) {s : ℕ} → eqb (P.processor n) processor ≡ a → test n ≡ b → Found P test processor n s
          → Found P test processor (suc n) (cond (a && b) (better P s n) s)
      go true true ea eb f = looked_at (eqb-true _ _ ea) eb f
      go true false ea eb f = passed_over (λ e t. clash t eb) f
      go false b ea eb f = passed_over (λ e t. eqb-false _ _ ea e) f

-- Row j is the one to run on its processor.
pub record Goes (P : Plan) (m : Moment) (j : ℕ) : Type 0 where
  pub row : j < P.rows
  pub row_open : m.completed j < m.released j
  pub most :
      (k : ℕ) → k < P.rows → P.processor k ≡ P.processor j → m.completed k < m.released k
      → P.priority k ≤ P.priority j
  pub lowest :
      (k : ℕ) → k < P.rows → P.processor k ≡ P.processor j → m.completed k < m.released k
      → P.priority k ≡ P.priority j → j ≤ k

-- What runs on a processor: nothing where no row of it is open, or else the row to run.
pub data Running (P : Plan) (m : Moment) (processor : ℕ) : ℕ → Type 0 where
  none :
      ((k : ℕ) → k < P.rows → P.processor k ≡ processor → m.released k ≤ m.completed k)
      → Running P m processor 0
  some : (j : ℕ) → P.processor j ≡ processor → Goes P m j → Running P m processor (suc j)

pub running_is : (P : Plan) (m : Moment) (processor : ℕ) → Running P m processor (running P m processor)
unfolding running is_open
running_is P m processor = go (best_found P (is_open m) processor P.rows)
  where
    go : {s : ℕ} → Found P (is_open m) processor P.rows s → Running P m processor s
    go (Found.none h) = none (λ k l e. by_contra _ _ (λ b. h k l e (lt-ltb _ _ b)))
    go (Found.some j o) =
        some j o.here (record {
          row = o.below;
          row_open = ltb-true _ _ o.passes;
          most = λ k l e b. o.most k l (e ∙ o.here) (lt-ltb _ _ b);
          lowest = λ k l e b. o.lowest k l (e ∙ o.here) (lt-ltb _ _ b);
        })

-- Two rows to run on one processor are one row.
pub goes_unique : {P : Plan} {m : Moment} {i j : ℕ} → Goes P m i → Goes P m j → P.processor i ≡ P.processor j → i ≡ j
goes_unique {P} {m} {i} {j} a b e =
    let q : P.priority i ≡ P.priority j = omega (arith, a.most j b.row (sym e) b.row_open, b.most i a.row e a.row_open) in
    omega (arith, a.lowest j b.row (sym e) b.row_open (sym q), b.lowest i a.row e a.row_open q)

-- Whatever has these properties is what the search finds.
pub running_unique : {P : Plan} {m : Moment} {processor s t : ℕ} → Running P m processor s → Running P m processor t → s ≡ t
running_unique (none h) (none k) = refl
running_unique (none h) (some j e g) = absurd (omega (arith, h j g.row e, g.row_open))
running_unique (some j e g) (none h) = absurd (omega (arith, h j g.row e, g.row_open))
running_unique (some i d f) (some j e g) = omega (arith, goes_unique f g (d ∙ sym e))

-- The test `runs` passes at the row to run,
pub goes_runs : {P : Plan} {m : Moment} {j : ℕ} → Goes P m j → runs P m j ≡ true
unfolding runs
goes_runs {P} {m} {j} g = eq-eqb _ _ (running_unique (running_is P m (P.processor j)) (some j refl g))

-- and at no other.
pub runs_goes : {P : Plan} {m : Moment} {j : ℕ} → runs P m j ≡ true → Goes P m j
unfolding runs
runs_goes {P} {m} {j} t = go (running_is P m (P.processor j)) (eqb-true _ _ t)
  where
    go : {s : ℕ} → Running P m (P.processor j) s → s ≡ suc j → Goes P m j
    go (none h) q = absurd (omega arith)
    go (some i e g) q = let ij : i ≡ j = omega arith in subst (λ k. Goes P m k) ij g
