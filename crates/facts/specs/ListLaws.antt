-- Laws of lists that the library leaves out.
use Rattle.std.specs.Prelude.{◌≡◌, refl, List, [], ◌∷◌, ℕ, zero, suc, ◌≤◌, ◌<◌, length, get_or, set}
use Rattle.std.proofs.Common.{ap, arith}

module _ {A : Type 0} where
  -- Within the list, what stands past its end does not matter.
  pub get_d_within : (l : List A) (k : ℕ) (d e : A) → k < length l → get_or l k d ≡ get_or l k e
  get_d_within [] k d e h = absurd (omega arith)
  get_d_within (x ∷ l) zero d e h = refl
  get_d_within (x ∷ l) (suc k) d e h = get_d_within l k d e (omega arith)

  -- A store past the end of a list changes nothing.
  pub set_past : (l : List A) (i : ℕ) (v : A) → length l ≤ i → l ≡ set l i v
  set_past [] i v h = refl
  set_past (x ∷ l) zero v h = absurd (omega arith)
  set_past (x ∷ l) (suc i) v h = ap (λ (r : List A). x ∷ r) (set_past l i v (omega arith))
