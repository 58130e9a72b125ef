-- Laws of lists filled from the front.
use Rattle.std.specs.Prelude.{◌≡◌, length, set, take, drop}
use Rattle.std.proofs.Math.Path.{refl}
use Rattle.std.proofs.Common.{sym, ◌∙◌, ap, add-one, length-drop, get_or-append-add, get_or-drop, ext_get_or, length-take-le, get_or-take}
use mathlib.Core.List.{List, [], ◌∷◌, ◌++◌, append_assoc}
use Prim.Native.Nat.{ℕ, zero, suc, ◌+◌, ◌*◌, ◌-◌, ◌≤◌, ◌<◌}
use native.Mathlib.Omega.{arith}
use Rattle.std.proofs.Math.Decide.{dec_lt}
use Rattle.std.proofs.Math.ListN.{get_or, length-append, get_or-append}
use Rattle.std.proofs.Math.Seq.{drop-cons, set_at, take-length}
use Rattle.std.proofs.lemmas.List.{get_or_at}
use Rattle.facts.specs.Filled.{tab, filled, laid, joined}

module _ {A : Type 0} where
  pub length_tab : (f : ℕ → A) (n : ℕ) → length (tab f n) ≡ n
  unfolding tab
  length_tab f zero = refl
  length_tab f (suc n) = omega (arith, length-append (tab f n) (f n ∷ []), length_tab f n)

  pub tab_ext : (f g : ℕ → A) (n : ℕ) → ((i : ℕ) → i < n → f i ≡ g i) → tab f n ≡ tab g n
  unfolding tab
  tab_ext f g zero h = refl
  tab_ext f g (suc n) h =
      let a : tab f n ≡ tab g n = tab_ext f g n (λ i l. h i (omega arith)) in
      let b : f n ≡ g n = h n (omega arith) in
      cc

  pub get_d_tab : (f : ℕ → A) (n i : ℕ) (d : A) → i < n → get_or (tab f n) i d ≡ f i
  unfolding tab
  get_d_tab f zero i d h = absurd (omega arith)
  get_d_tab f (suc n) i d h = go (dec_lt i n) (get_d_tab f n i d)
    where
      go : Dec (i < n) → (i < n → get_or (tab f n) i d ≡ f i) → get_or (tab f n ++ (f n ∷ [])) i d ≡ f i
      go (yes l) ih = get_or-append (tab f n) (f n ∷ []) d i (omega (arith, length_tab f n)) ∙ ih l
      go (no l) ih = let e : i ≡ n = omega arith in rw e (get_or_at (tab f n) (f n) [] d n (length_tab f n))

  -- Nothing is filled yet.
  pub filled_none : (f : ℕ → A) (l : List A) → l ≡ filled f 0 l
  unfolding tab
  filled_none f l = refl

  -- One more entry is stored.
  pub filled_more : (f : ℕ → A) (n : ℕ) (v : A) (l : List A) → n < length l → v ≡ f n → set (filled f n l) n v ≡ filled f (n + 1) l
  unfolding tab
  filled_more f n v l h e =
      rw (add-one, drop-cons l n v h, set_at (tab f n) (get_or l n v) (drop (suc n) l) v n (length_tab f n), append_assoc, e)

  -- Nothing is stored where the value is there already.
  pub filled_keep : (f : ℕ → A) (n : ℕ) (d : A) (l : List A) → n < length l → f n ≡ get_or l n d → filled f n l ≡ filled f (n + 1) l
  unfolding tab
  filled_keep f n d l h e = rw (add-one, drop-cons l n d h, append_assoc, e)

  pub length_filled : (f : ℕ → A) (n : ℕ) (l : List A) → n ≤ length l → length (filled f n l) ≡ length l
  length_filled f n l h = omega (arith, length-append (tab f n) (drop n l), length_tab f n, length-drop n l)

  pub get_d_filled : (f : ℕ → A) (n i : ℕ) (d : A) (l : List A) → i < n → get_or (filled f n l) i d ≡ f i
  get_d_filled f n i d l h =
      get_or-append (tab f n) (drop n l) d i (omega (arith, length_tab f n)) ∙ get_d_tab f n i d h

  pub get_d_rest : (f : ℕ → A) (n i : ℕ) (d : A) (l : List A) → n ≤ i → get_or (filled f n l) i d ≡ get_or l i d
  get_d_rest f n i d l h =
      let e : length (tab f n) + (i - n) ≡ i = omega (arith, length_tab f n) in
      let g : n + (i - n) ≡ i = omega arith in
      ap (λ (k : ℕ). get_or (filled f n l) k d) (sym e) ∙ get_or-append-add (tab f n) (drop n l) (i - n) d
      ∙ get_or-drop n l (i - n) d ∙ ap (λ (k : ℕ). get_or l k d) g

  pub filled_ext : (f g : ℕ → A) (n : ℕ) (l : List A) → ((i : ℕ) → i < n → f i ≡ g i) → filled f n l ≡ filled g n l
  filled_ext f g n l h = let e : tab f n ≡ tab g n = tab_ext f g n h in rw e

  -- A list's own first entries are its front.
  pub tab_take : (l : List A) (d : A) (n : ℕ) → n ≤ length l → tab (λ i. get_or l i d) n ≡ take n l
  tab_take l d n h =
      ext_get_or d (tab (λ i. get_or l i d) n) (take n l)
      (length_tab (λ i. get_or l i d) n ∙ sym (length-take-le n l h))
      (λ i lt. (let lt' : i < n = omega (arith, length_tab (λ i. get_or l i d) n) in
      get_d_tab (λ i. get_or l i d) n i d lt' ∙ sym (get_or-take n l i d lt')))

  -- A list laid over is a list filled with its entries.
  pub laid_filled : (new l : List A) (d : A) → laid new l ≡ filled (λ i. get_or new i d) (length new) l
  laid_filled new l d =
      let e : tab (λ i. get_or new i d) (length new) ≡ take (length new) new = tab_take new d (length new) (omega arith) in
      rw (e, take-length new)

  pub joined_none : (f : ℕ → List A) → joined 0 f ≡ []
  unfolding joined
  joined_none f = refl

  pub joined_more : (n : ℕ) (f : ℕ → List A) → joined (n + 1) f ≡ joined n f ++ f n
  unfolding joined
  joined_more n f = rw (add-one n) refl

  pub joined_ext : (n : ℕ) (f g : ℕ → List A) → ((i : ℕ) → i < n → f i ≡ g i) → joined n f ≡ joined n g
  unfolding joined
  joined_ext zero f g h = refl
  joined_ext (suc n) f g h =
      let a : joined n f ≡ joined n g = joined_ext n f g (λ i l. h i (omega arith)) in
      let b : f n ≡ g n = h n (omega arith) in
      cc

  -- Each part at most m long: the whole at most n × m.
  pub joined_most : (n m : ℕ) (f : ℕ → List A) → ((i : ℕ) → i < n → length (f i) ≤ m) → length (joined n f) ≤ n * m
  unfolding joined
  joined_most zero m f h = omega arith
  joined_most (suc n) m f h =
      omega (arith, length-append (joined n f) (f n), joined_most n m f (λ i l. h i (omega arith)), h n (omega arith))
