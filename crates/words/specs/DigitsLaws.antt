-- Laws of numbers and their digits to base 256, the least significant first.
use Prim.Native.Nat.{ℕ, zero, suc, ◌+◌, ◌*◌, ◌-◌, ◌/◌, ◌%◌, ◌^◌, ◌≤◌, ◌<◌}
use Rattle.std.specs.Prelude.{◌≡◌}
use Rattle.std.proofs.Common.{sym, ◌∙◌, zero-add, mod-eq_of_lt, pow-add}
use Rattle.std.proofs.Math.Path.{ap}
use native.Mathlib.Omega.{arith}
use Rattle.std.proofs.Math.Decide.{dec_lt}
use Rattle.std.proofs.Math.Nat.{one-le-pow, pow-succ', mod-one, div-eq_of_lt, mul-le-mul_right, add-mul-div_left, add-mul-div_right, add-mul-mod_self_left}
use Rattle.std.proofs.Math.Arith.{mod-mul}
use Rattle.facts.specs.Sums.{sum}

power_pos : (n : ℕ) → 0 < 256 ^ n
power_pos n = one-le-pow n 256 (omega arith)

-- The sum of a number's n lowest digits, each at its worth, is the number's rest by 256 ^ n.
pub sum_of_digits : (n v : ℕ) → sum n (λ i. v / 256 ^ i % 256 * 256 ^ i) ≡ v % 256 ^ n
unfolding sum
sum_of_digits zero v = sym (mod-one v)
sum_of_digits (suc n) v =
    rw (pow-succ' 256 n) (omega (arith, mod-mul v {m = 256} {c = 256 ^ n} (omega arith) (power_pos n), sum_of_digits n v))

-- A digit put above leaves those below it as they are,
digit_below : (s d i m : ℕ) → (s + d * 256 ^ (i + suc m)) / 256 ^ i % 256 ≡ s / 256 ^ i % 256
digit_below s d i m =
    let e : d * 256 ^ (i + suc m) ≡ 256 ^ i * (256 * (256 ^ m * d)) = rw (pow-add 256 i (suc m), pow-succ' 256 m) (omega arith) in
    rw (e, add-mul-div_left s (256 * (256 ^ m * d)) (power_pos i)) (add-mul-mod_self_left (s / 256 ^ i) 256 (256 ^ m * d))

-- and is read back itself.
digit_top : (s d n : ℕ) → s < 256 ^ n → d < 256 → (s + d * 256 ^ n) / 256 ^ n % 256 ≡ d
digit_top s d n h l =
    rw (add-mul-div_right s d (power_pos n), div-eq_of_lt h, zero-add d) (mod-eq_of_lt l)

module _ (f : ℕ → ℕ) (small : (i : ℕ) → f i < 256) where
  -- A number of n digits is below 256 ^ n,
  pub digits_fit : (n : ℕ) → sum n (λ i. f i * 256 ^ i) < 256 ^ n
  unfolding sum
  digits_fit zero = omega arith
  digits_fit (suc n) =
      let top : f n ≤ 255 = omega (arith, small n) in
      rw (pow-succ' 256 n) (omega (arith, digits_fit n, mul-le-mul_right (256 ^ n) top))

  -- and has its digits back by quotient and rest.
  pub digit_of_sum : (n i : ℕ) → i < n → sum n (λ j. f j * 256 ^ j) / 256 ^ i % 256 ≡ f i
  unfolding sum
  digit_of_sum zero i h = absurd (omega arith)
  digit_of_sum (suc n) i h = go (dec_lt i n) (digit_of_sum n i)
    where
      go :
          Dec (i < n) → (i < n → sum n (λ j. f j * 256 ^ j) / 256 ^ i % 256 ≡ f i)
          → (sum n (λ j. f j * 256 ^ j) + f n * 256 ^ n) / 256 ^ i % 256 ≡ f i
      go (yes l) ih =
          let e : n ≡ i + suc (n - suc i) = omega arith in
          ap (λ (m : ℕ). (sum n (λ j. f j * 256 ^ j) + f n * 256 ^ m) / 256 ^ i % 256) e
          ∙ digit_below (sum n (λ j. f j * 256 ^ j)) (f n) i (n - suc i) ∙ ih l
      go (no l) ih =
          let e : i ≡ n = omega arith in
          rw e (digit_top (sum n (λ j. f j * 256 ^ j)) (f n) n (digits_fit n) (small n))
