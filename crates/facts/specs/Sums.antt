-- Sums over the numbers below n.
use Rattle.std.specs.Prelude.{ℕ, zero, suc, ◌+◌, Bool, cond}

-- The sum of f i over i below n.
unfoldable pub sum : ℕ → (ℕ → ℕ) → ℕ
sum zero f = 0
sum (suc n) f = sum n f + f n

-- The sum of f i over the i below n that pass the test b.
unfoldable pub sum_if : ℕ → (ℕ → Bool) → (ℕ → ℕ) → ℕ
sum_if n b f = sum n (λ i. cond (b i) (f i) 0)
