-- Laws of a slack: the difference of two numbers, with its sign.
use Rattle.std.specs.Prelude.{◌≡◌, refl, not, ℕ, zero, suc, ◌-◌, ◌≤◌, ◌<◌, leb, ℤ, pos, negsuc, ◌-ℤ◌, ◌≤ℤ◌}
use Rattle.std.proofs.Common.{ap, arith, lt-ltb, le-ltb, le-leb, le→leb, to_z, of_z}
use Rattle.std.proofs.Math.Decide.{dec_le}
use Rattle.std.proofs.lemmas.Bool.{lt-leb}
use Rattle.std.specs.Int.Signed.{mag, le_z, lt_z}
use Rattle.std.specs.Int.{w64}
use Rattle.std.proofs.lemmas.Int.{to_z-of_z}

-- The difference is not negative,
pub less_pos : (a b : ℕ) → b ≤ a → pos a -ℤ pos b ≡ pos (a - b)
less_pos a zero h = ap pos (omega arith)
less_pos a (suc b) h = rw (le-ltb a (suc b) h)

-- or it is.
pub less_neg : (a b : ℕ) → a < b → pos a -ℤ pos b ≡ negsuc (b - suc a)
less_neg a zero h = absurd (omega arith)
less_neg a (suc b) h = rw (lt-ltb a (suc b) h)

-- It is zero or more exactly where the second number is at most the first.
pub less_sign : (a b : ℕ) → le_z (pos 0) (pos a -ℤ pos b) ≡ leb b a
less_sign a b = go (dec_le b a)
  where
    go : Dec (b ≤ a) → le_z (pos 0) (pos a -ℤ pos b) ≡ leb b a
    go (yes h) = rw (less_pos a b h, le-leb b a h, le-leb 0 (a - b) (omega arith))
    go (no h) = rw (less_neg a b (omega arith), lt-leb b a (omega arith))

-- More less no more is no less.
pub less_mono : (a b a' b' : ℕ) → a ≤ a' → b' ≤ b → (pos a -ℤ pos b) ≤ℤ (pos a' -ℤ pos b')
less_mono a b a' b' h l = go (dec_le b a) (dec_le b' a')
  where
    go : Dec (b ≤ a) → Dec (b' ≤ a') → (pos a -ℤ pos b) ≤ℤ (pos a' -ℤ pos b')
    go (yes p) (yes q) = rw (less_pos a b p, less_pos a' b' q) (record { le = le→leb (a - b) (a' - b') (omega arith) })
    go (yes p) (no q) = absurd (omega arith)
    go (no p) (yes q) = rw (less_neg a b (omega arith), less_pos a' b' q) (record { le = tt })
    go (no p) (no q) =
        rw (less_neg a b (omega arith), less_neg a' b' (omega arith)) (record { le = le→leb (b' - suc a') (b - suc a) (omega arith) })

-- A number is below zero or it is zero or more.
pub negative : (z : ℤ) → le_z (pos 0) z ≡ not (lt_z z (pos 0))
negative (pos n) = rw (le-leb 0 n (omega arith), le-ltb n 0 (omega arith))
negative (negsuc n) = refl

-- It fits a signed word where both numbers do.
pub mag_less : (a b : ℕ) {m : ℕ} → a < m → b < m → mag (pos a -ℤ pos b) < m
mag_less a b {m} h l = go (dec_le b a)
  where
    go : Dec (b ≤ a) → mag (pos a -ℤ pos b) < m
    go (yes p) = rw (less_pos a b p) (omega arith)
    go (no p) = rw (less_neg a b (omega arith)) (omega arith)

-- What a signed word holds of a small difference is the difference.
pub word_less : (a b : ℕ) (z : ℤ) → a ≤ 160000000 → b ≤ 160000000 → z ≡ pos a -ℤ pos b → to_z w64 (of_z w64 z) ≡ z
word_less a b z h l e = to_z-of_z w64 z (record { sfits = rw e (mag_less a b (omega arith) (omega arith)) })
