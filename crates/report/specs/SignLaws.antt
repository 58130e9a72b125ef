-- Laws of a signed number without its sign.
use Rattle.std.specs.Prelude.{suc, ◌+◌, ◌≡◌, refl, true, false, T, ℤ, pos, negsuc, ◌-ℤ◌, nat_abs}
use Rattle.std.proofs.Common.{arith, le-ltb, le-leb, Fits, SFits}
use Rattle.std.specs.Int.Signed.{le_z, non_neg}
use Rattle.std.specs.Int.{w64}
use Rattle.facts.specs.TestsLaws.{clash}

-- A number of a signed word that is zero or more is a number of an unsigned one.
pub above_fits : (z : ℤ) → SFits w64 z → le_z (pos 0) z ≡ true → T (non_neg z) × Fits w64 (nat_abs z)
above_fits (pos n) f e = (tt, record { fits = omega (arith, f.sfits) })
above_fits (negsuc n) f e = absurd (clash e refl)

-- One below zero, taken from -1, leaves a number of the signed word,
pub below_fits : (z : ℤ) → SFits w64 z → le_z (pos 0) z ≡ false → SFits w64 (negsuc 0 -ℤ z)
below_fits (pos n) f e = absurd (clash (le-leb 0 n (omega arith)) e)
below_fits (negsuc n) f e = rw (le-ltb (suc n) 1 (omega arith)) (record { sfits = omega (arith, f.sfits) })

-- which is zero or more, with one to spare,
pub rest_fits :
    (z : ℤ) → SFits w64 z → le_z (pos 0) z ≡ false → T (non_neg (negsuc 0 -ℤ z)) × Fits w64 (nat_abs (negsuc 0 -ℤ z) + 1)
rest_fits (pos n) f e = absurd (clash (le-leb 0 n (omega arith)) e)
rest_fits (negsuc n) f e = rw (le-ltb (suc n) 1 (omega arith)) (tt, record { fits = omega (arith, f.sfits) })

-- and is one less than the number without its sign.
pub rest_is : (z : ℤ) → le_z (pos 0) z ≡ false → nat_abs (negsuc 0 -ℤ z) + 1 ≡ nat_abs z
rest_is (pos n) e = absurd (clash (le-leb 0 n (omega arith)) e)
rest_is (negsuc n) e = rw (le-ltb (suc n) 1 (omega arith)) (omega arith)
