-- Laws of quotients rounded up.
use Rattle.std.specs.Prelude.{ℕ, suc, ◌+◌, ◌*◌, ◌-◌, ◌≤◌, ◌<◌}
use Rattle.std.proofs.Common.{div-lt_iff_lt-mul, mul-le-mul_right, mul-le-mul_left, div-mul-le_self}
use Rattle.std.proofs.Math.Nat.{lt-div-mul-add}
use native.Mathlib.Omega.{arith, by_contra}
use Rattle.facts.specs.Rounding.{ceil}

-- It is the least: j × p at or above x makes j at least ceil x p.
pub ceil_le : {x p j : ℕ} → 0 < p → x ≤ j * p → ceil x p ≤ j
unfolding ceil
ceil_le {x} {p} {j} pp h =
    omega (arith, (div-lt_iff_lt-mul {k = p} {x = x + (p - 1)} {y = suc j} pp).1 (omega arith))

-- It covers x.
pub le_ceil : (x : ℕ) {p : ℕ} → 0 < p → x ≤ ceil x p * p
unfolding ceil
le_ceil x {p} pp = omega (arith, lt-div-mul-add {a = x + (p - 1)} {b = p} pp)

-- One period less does not.
pub ceil_tight : (x : ℕ) {p : ℕ} → 0 < p → ceil x p * p < x + p
unfolding ceil
ceil_tight x {p} pp = omega (arith, div-mul-le_self (x + (p - 1)) p)

-- Multiples of p below x are fewer than ceil x p.
pub ceil_count : {x p k : ℕ} → 0 < p → k * p < x → k < ceil x p
ceil_count {x} {p} {k} pp h = by_contra (suc k) (ceil x p) (λ b. omega (arith, le_ceil x pp, mul-le-mul_right p (le b)))
  where
    le : ceil x p < suc k → ceil x p ≤ k
    le b = omega arith

pub ceil_mono : {x y p q : ℕ} → 0 < p → 0 < q → x ≤ y → q ≤ p → ceil x p ≤ ceil y q
ceil_mono {x} {y} {p} {q} pp qq h l = ceil_le pp (omega (arith, le_ceil y qq, mul-le-mul_left (ceil y q) l))

pub ceil_pos : {x p : ℕ} → 0 < p → 0 < x → 0 < ceil x p
ceil_pos pp h = ceil_count pp (omega arith)
