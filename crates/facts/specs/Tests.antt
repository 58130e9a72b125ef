-- Tests over all numbers below n.
use Rattle.std.specs.Prelude.{ℕ, zero, suc, Bool, true, cond, ◌&&◌, ltb}

-- The test f passes at each number below n.
unfoldable pub all : ℕ → (ℕ → Bool) → Bool
all zero f = true
all (suc n) f = all n f && f n

-- The least number below n that passes the test, or n where none does.
unfoldable pub lowest : ℕ → (ℕ → Bool) → ℕ
lowest zero f = 0
lowest (suc n) f = cond (ltb (lowest n f) n) (lowest n f) (cond (f n) n (suc n))
