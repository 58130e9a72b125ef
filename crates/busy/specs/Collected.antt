-- Lists that rows are gathered into, and lists that results are laid out in.
use Rattle.std.specs.Prelude.{Bool, cond, List, ℕ, zero, suc, ◌+◌, set}
use Rattle.facts.specs.Sums.{sum_if}

-- How many numbers below n pass the test.
abbrev pub count_if : ℕ → (ℕ → Bool) → ℕ
count_if n b = sum_if n b (λ i. 1)

-- The list l with f j, for each j below n that passes the test, stored one after another from position `from`.
unfoldable pub collected : (ℕ → Bool) → (ℕ → ℕ) → ℕ → ℕ → List ℕ → List ℕ
collected b f from zero l = l
collected b f from (suc n) l =
    cond (b n) (set (collected b f from n l) (from + count_if n b) (f n)) (collected b f from n l)

-- The list l with f i stored at position at i, for each i below n in turn.
unfoldable pub scattered : (ℕ → ℕ) → (ℕ → ℕ) → ℕ → List ℕ → List ℕ
scattered place f zero l = l
scattered place f (suc n) l = set (scattered place f n l) (place n) (f n)
