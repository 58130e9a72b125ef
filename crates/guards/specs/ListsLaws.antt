-- Laws of lists that are filled, stored into and filled again.
use Rattle.std.specs.Prelude.{ℕ, ◌≤◌, ◌<◌, ◌≡◌, refl, List, length, get_or, set}
use Rattle.std.proofs.Common.{sym, ◌∙◌, arith, length-set, ext_get_or, get_or-set_same, get_or-set_other}
use Rattle.std.proofs.Math.Decide.{dec_lt, ℕ_discrete}
use Rattle.facts.specs.Filled.{tab, filled}
use Rattle.facts.specs.FilledLaws.{length_tab, length_filled, get_d_tab, get_d_filled, get_d_rest}

module _ {A : Type 0} (d : A) where
  -- A list is filled where its entries say so.
  filled_is :
      (h : ℕ → A) (n : ℕ) (k l : List A) → length k ≡ length l → n ≤ length l
      → ((i : ℕ) → i < n → get_or k i d ≡ h i) → ((i : ℕ) → n ≤ i → get_or k i d ≡ get_or l i d) → k ≡ filled h n l
  filled_is h n k l e b front rest =
      ext_get_or d k (filled h n l) (e ∙ sym (length_filled h n l b)) (λ i lt. go i (dec_lt i n))
    where
      go : (i : ℕ) → Dec (i < n) → get_or k i d ≡ get_or (filled h n l) i d
      go i (yes a) = front i a ∙ sym (get_d_filled h n i d l a)
      go i (no a) = rest i (omega arith) ∙ sym (get_d_rest h n i d l (omega arith))

  -- Filled with its own entries it stays.
  pub filled_own :
      (h : ℕ → A) (n : ℕ) (l : List A) → n ≤ length l → ((i : ℕ) → i < n → get_or l i d ≡ h i) → l ≡ filled h n l
  filled_own h n l b e = filled_is h n l l refl b e (λ i a. refl)

  -- One entry that differs is stored.
  pub filled_one :
      (h : ℕ → A) (n : ℕ) (l : List A) (f : ℕ) (v : A) → n ≤ length l → f < n → v ≡ h f
      → ((i : ℕ) → i < n → (i ≡ f → ⊥) → get_or l i d ≡ h i) → set l f v ≡ filled h n l
  filled_one h n l f v b lf ev e =
      filled_is h n (set l f v) l (length-set l f v) b (λ i a. go i a (ℕ_discrete i f)) (λ i a. get_or-set_other l f i v d (λ q. omega arith))
    where
      go : (i : ℕ) → i < n → Dec (i ≡ f) → get_or (set l f v) i d ≡ h i
      go i a (yes q) = rw q (get_or-set_same l f v d (omega arith) ∙ ev)
      go i a (no q) = get_or-set_other l f i v d q ∙ e i a q

  -- What is filled again is filled as the last time.
  pub filled_again : (h g : ℕ → A) (n : ℕ) (l : List A) → n ≤ length l → filled h n (filled g n l) ≡ filled h n l
  filled_again h g n l b =
      filled_is h n (filled h n (filled g n l)) l
      (length_filled h n (filled g n l) (omega (arith, length_filled g n l b)) ∙ length_filled g n l b)
      b
      (λ i a. get_d_filled h n i d (filled g n l) a)
      (λ i a. get_d_rest h n i d (filled g n l) a ∙ get_d_rest g n i d l a)

  -- A list of all its numbers with one entry stored.
  pub tab_set :
      (f g : ℕ → A) (n p : ℕ) (v : A) → p < n → v ≡ g p → ((i : ℕ) → i < n → (i ≡ p → ⊥) → f i ≡ g i)
      → set (tab f n) p v ≡ tab g n
  tab_set f g n p v l ev e =
      ext_get_or d (set (tab f n) p v) (tab g n)
      (length-set (tab f n) p v ∙ length_tab f n ∙ sym (length_tab g n))
      (λ i a. (let b : i < n = omega (arith, length-set (tab f n) p v, length_tab f n) in go i b (ℕ_discrete i p) ∙ sym (get_d_tab g n i d b)))
    where
      go : (i : ℕ) → i < n → Dec (i ≡ p) → get_or (set (tab f n) p v) i d ≡ g i
      go i a (yes q) = rw q (get_or-set_same (tab f n) p v d (omega (arith, length_tab f n)) ∙ ev)
      go i a (no q) = get_or-set_other (tab f n) p i v d q ∙ get_d_tab f n i d a ∙ e i a q
