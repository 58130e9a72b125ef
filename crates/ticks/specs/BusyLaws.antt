-- The search for busy processors, one row at a time.
use Rattle.std.specs.Prelude.{ℕ, ◌+◌, ◌<◌, ◌≡◌, refl, Bool, true, false, ◌&&◌, eqb, set}
use Rattle.std.proofs.Math.Path.{sym}
use Rattle.std.proofs.Common.{◌∙◌, add-one, eq-eqb, ne_eqb}
use Rattle.std.proofs.Math.Bool.{not}
use Rattle.facts.specs.Tests.{all}
use Rattle.facts.specs.TestsLaws.{and_false}
use Rattle.facts.specs.Filled.{tab}
use Rattle.facts.specs.FilledLaws.{tab_ext}
use Rattle.guards.specs.ListsLaws.{tab_set}

pub and_yes : (a : Bool) → a && true ≡ a
and_yes true = refl
and_yes false = refl

-- The rows of processors, given by a function, and which are open.
module _ (processor : ℕ → ℕ) (shown : ℕ → Bool) where
  -- Of the first n rows one of processor x is open.
  unfoldable pub busy_below : ℕ → ℕ → Bool
  busy_below n x = not (all n (λ r. not (eqb (processor r) x && shown r)))

  more : (n x : ℕ) → busy_below (n + 1) x ≡ not (all n (λ r. not (eqb (processor r) x && shown r)) && not (eqb (processor n) x && shown n))
  unfolding busy_below all
  more n x = rw (add-one n)

  -- An open row makes its own processor busy,
  here : (n : ℕ) → shown n ≡ true → true ≡ busy_below (n + 1) (processor n)
  here n s = sym (more n (processor n) ∙ rw (eq-eqb (processor n) (processor n) refl, s, and_false (all n (λ r. not (eqb (processor r) (processor n) && shown r)))))

  elsewhere : (n x : ℕ) → (x ≡ processor n → ⊥) → busy_below n x ≡ busy_below (n + 1) x
  unfolding busy_below
  elsewhere n x d = sym (more n x ∙ rw (ne_eqb (processor n) x (λ e. d (sym e)), and_yes (all n (λ r. not (eqb (processor r) x && shown r)))))

  pub busy_more : (n w : ℕ) → shown n ≡ true → processor n < w → set (tab (busy_below n) w) (processor n) true ≡ tab (busy_below (n + 1)) w
  busy_more n w s l =
      tab_set false (busy_below n) (busy_below (n + 1)) w (processor n) true l (here n s) (λ x a d. elsewhere n x d)

  -- and one that isn't open makes none.
  shut : (n x : ℕ) → shown n ≡ false → busy_below n x ≡ busy_below (n + 1) x
  unfolding busy_below
  shut n x s = sym (more n x ∙ rw (s, and_false (eqb (processor n) x), and_yes (all n (λ r. not (eqb (processor r) x && shown r)))))

  pub busy_same : (n w : ℕ) → shown n ≡ false → tab (busy_below n) w ≡ tab (busy_below (n + 1)) w
  busy_same n w s = tab_ext (busy_below n) (busy_below (n + 1)) w (λ x l. shut n x s)
