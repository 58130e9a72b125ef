-- The search for the row to run, one row at a time.
use Prim.Native.Nat.{ℕ, zero, suc, ◌+◌, ◌-◌, ◌≤◌, ◌<◌}
use Rattle.std.specs.Prelude.{◌≡◌, refl, Bool, true, false, cond, ◌&&◌, List, [], ltb, eqb, set}
use Rattle.std.proofs.Common.{sym, ◌∙◌, add-one}
use native.Mathlib.Omega.{arith}
use borrow.Author.Tests.{eq-eqb, ne_eqb}
use Rattle.facts.specs.Filled.{tab}
use Rattle.facts.specs.FilledLaws.{tab_ext}
use Rattle.table.specs.Plan.{Plan}
use Rattle.guards.specs.Moment.{moment_of}
use Rattle.guards.specs.Lent.{state_of}
use Rattle.guards.specs.Rows.{plan_from}
use Rattle.guards.specs.Running.{is_open, better, best, running}
use Rattle.guards.specs.ListsLaws.{tab_set}

-- The better of two rows reads priorities alone.
pub better_ext : (P Q : Plan) → ((r : ℕ) → P.priority r ≡ Q.priority r) → (b r : ℕ) → better P b r ≡ better Q b r
unfolding better
better_ext P Q e zero r = refl
better_ext P Q e (suc j) r = rw (e j, e r)

pub better_none : (P : Plan) (b r : ℕ) → b ≡ 0 → r + 1 ≡ better P b r
unfolding better
better_none P b r e = rw (e, add-one r)

pub better_some :
    (P : Plan) (b r : ℕ) → (b ≡ 0 → ⊥) → better P b r ≡ cond (ltb (P.priority (b - 1)) (P.priority r)) (r + 1) b
unfolding better
better_some P zero r n = absurd (n refl)
better_some P (suc j) r n = let e : suc j - 1 ≡ j = omega arith in rw (e, add-one r)

cond_most : (a b : Bool) (x y n : ℕ) → x ≤ n → y ≤ n → cond (a && b) x y ≤ n
cond_most true true x y n l m = l
cond_most true false x y n l m = m
cond_most false b x y n l m = m

better_most : (P : Plan) (b r : ℕ) → b ≤ r → better P b r ≤ suc r
unfolding better
better_most P zero r l = omega arith
better_most P (suc j) r l = go (ltb (P.priority j) (P.priority r))
  where
    go : (t : Bool) → cond t (suc r) (suc j) ≤ suc r
    go true = omega arith
    go false = omega arith

module _ (P : Plan) (test : ℕ → Bool) where
  -- The best of n rows is one of them.
  pub best_most : (x n : ℕ) → best P test x n ≤ n
  unfolding best
  best_most x zero = omega arith
  best_most x (suc n) =
      let l : best P test x n ≤ n = best_most x n in
      cond_most (eqb (P.processor n) x) (test n) _ _ (suc n) (better_most P (best P test x n) n l) (omega arith)

  -- One row more changes what is found on its own processor alone.
  here : (n p : ℕ) → p ≡ P.processor n → best P test p (n + 1) ≡ cond (test n) (better P (best P test p n) n) (best P test p n)
  unfolding best
  here n p e = rw (add-one n, ← e, eq-eqb p p refl)

  elsewhere : (n p x : ℕ) → p ≡ P.processor n → (x ≡ p → ⊥) → best P test x n ≡ best P test x (n + 1)
  unfolding best
  elsewhere n p x e d = rw (add-one n, ← e, ne_eqb p x (λ q. d (sym q)))

  pub found_more :
      (n p v w : ℕ) → p ≡ P.processor n → p < w → v ≡ cond (test n) (better P (best P test p n) n) (best P test p n)
      → set (tab (λ x. best P test x n) w) p v ≡ tab (λ x. best P test x (n + 1)) w
  found_more n p v w e l ev =
      tab_set 0 (λ x. best P test x n) (λ x. best P test x (n + 1)) w p v l (ev ∙ sym (here n p e)) (λ x a d. elsewhere n p x e d)

-- The search reads processors and priorities, and the test below n.
pub best_ext :
    (P Q : Plan) → ((r : ℕ) → P.processor r ≡ Q.processor r) → ((r : ℕ) → P.priority r ≡ Q.priority r)
    → (t u : ℕ → Bool) (x n : ℕ) → ((r : ℕ) → r < n → t r ≡ u r) → best P t x n ≡ best Q u x n
unfolding best
best_ext P Q p q t u x zero h = refl
best_ext P Q p q t u x (suc n) h =
    let e : best P t x n ≡ best Q u x n = best_ext P Q p q t u x n (λ r l. h r (omega arith)) in
    let d : t n ≡ u n = h n (omega arith) in
    rw (p n, d, e, better_ext P Q q (best Q u x n) n)

-- Which row runs is read from what is released and completed alone.
pub running_lists :
    (n : ℕ) (processor priority released completed : List ℕ) (clock : ℕ) (used guard : List ℕ) {list : List ℕ}
    → list ≡ tab (λ x. best (plan_from n [] [] processor priority []) (is_open (moment_of (state_of 0 released completed [] []))) x n) 17
    → list ≡ tab (running (plan_from n [] [] processor priority []) (moment_of (state_of clock released completed used guard))) 17
unfolding running is_open moment_of
running_lists n processor priority released completed clock used guard e =
    let P : Plan = plan_from n [] [] processor priority [] in
    let t : ℕ → Bool = is_open (moment_of (state_of 0 released completed [] [])) in
    let u : ℕ → Bool = is_open (moment_of (state_of clock released completed used guard)) in
    e ∙ tab_ext _ _ 17 (λ x l. best_ext P P (λ r. refl) (λ r. refl) t u x n (λ r b. refl))
