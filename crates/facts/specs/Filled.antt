-- Lists filled from the front.
use Rattle.std.specs.Prelude.{List, [], ◌∷◌, ◌++◌, ℕ, zero, suc, length, drop}

module _ {A : Type 0} where
  -- f 0, .., f (n - 1).
  unfoldable pub tab : (ℕ → A) → ℕ → List A
  tab f zero = []
  tab f (suc n) = tab f n ++ (f n ∷ [])

  -- The list l with its first n entries f 0, .., f (n - 1); the rest stays.
  abbrev pub filled : (ℕ → A) → ℕ → List A → List A
  filled f n l = tab f n ++ drop n l

  -- The list l with the list new laid over its front; the rest stays.
  abbrev pub laid : List A → List A → List A
  laid new l = new ++ drop (length new) l

  -- f 0, .., f (n - 1) one after another.
  unfoldable pub joined : ℕ → (ℕ → List A) → List A
  joined zero f = []
  joined (suc n) f = joined n f ++ f n
