-- Facts about least answers, proved once for every equation that has one.
use Rattle.std.specs.Prelude.{◌≡◌}
use Prim.Native.Nat.{ℕ, zero, suc, ◌≤◌, ◌<◌}
use native.Mathlib.Omega.{arith, both_ways}
use Rattle.std.proofs.Math.Decide.{dec_le}
use Rattle.facts.specs.Least.{Least, Unanswered}

-- f never falls, and is above 0 above 0.
pub record Rising (f : ℕ → ℕ) : Type 0 where
  pub mono : (t u : ℕ) → t ≤ u → f t ≤ f u
  pub pos : (t : ℕ) → 0 < t → 0 < f t

-- t is at most each positive u with f u ≤ u: what a search from below knows of t.
abbrev pub Below : (ℕ → ℕ) → ℕ → Type 0
Below f t = (u : ℕ) → 0 < u → f u ≤ u → t ≤ u

pub below_one : (f : ℕ → ℕ) → Below f 1
below_one f u p h = p

-- Any two least answers are equal.
pub least_unique : {f : ℕ → ℕ} {K L : ℕ} → Least f K → Least f L → K ≡ L
least_unique {f} {K} {L} k l = both_ways K L (k.least L l.pos l.answer) (l.least K k.pos k.answer)

-- Where there is none up to the limit, no least answer is within it.
pub unanswered_none : {f : ℕ → ℕ} {limit L : ℕ} → Unanswered f limit → Least f L → L ≤ limit → ⊥
unanswered_none {f} {limit} {L} n l h = omega (arith, n L l.pos l.answer)

module _ {f : ℕ → ℕ} (m : Rising f) where
  -- The search goes from t to f t,
  pub below_step : {t : ℕ} → Below f t → Below f (f t)
  below_step {t} b u p h = omega (arith, m.mono t u (b u p h))

  -- or to anything between,
  pub below_part : {t s : ℕ} → Below f t → s ≤ f t → Below f s
  below_part {t} b l u p h = omega (arith, below_step b u p h)

  -- never falls,
  pub below_rises : {t : ℕ} → 0 < t → Below f t → t ≤ f t
  below_rises {t} p b = go (dec_le t (f t))
    where
      go : Dec (t ≤ f t) → t ≤ f t
      go (yes h) = h
      go (no h) = b (f t) (m.pos t p) (m.mono (f t) t (omega arith))

  -- has found the least answer where it stands still,
  pub below_stop : {t : ℕ} → 0 < t → Below f t → f t ≡ t → Least f t
  below_stop {t} p b e = record { pos = p; answer = e; least = λ u pu eu. b u pu (omega arith) }

  -- and knows that there is none up to a limit that it has passed.
  pub below_past : {t limit : ℕ} → Below f t → limit < t → Unanswered f limit
  below_past {t} b h u p e = omega (arith, b u p (omega arith))

-- What a search from 1 to n finds: the first t with f t ≤ t, or none.
data First (f : ℕ → ℕ) (n : ℕ) : Type 0 where
  found : (t : ℕ) → 0 < t → t ≤ n → f t ≤ t → Below f t → First f n
  none : ((u : ℕ) → 0 < u → u ≤ n → u < f u) → First f n

first : (f : ℕ → ℕ) (n : ℕ) → First f n
first f zero = none (λ u a b. omega arith)
first f (suc n) = go (first f n) (dec_le (f (suc n)) (suc n))
  where
    go : First f n → Dec (f (suc n) ≤ suc n) → First f (suc n)
    go (found t p l h b) d = found t p (omega arith) h b
    go (none h) (yes e) =
        found (suc n) (omega arith) (omega arith) e (λ u pu eu. go₁ u pu eu (dec_le (suc n) u))
      where
        go₁ : (u : ℕ) → 0 < u → f u ≤ u → Dec (suc n ≤ u) → suc n ≤ u
        go₁ u pu eu (yes l) = l
        go₁ u pu eu (no l) = omega (arith, h u pu (omega arith))
    go (none h) (no e) = none (λ u pu lu. go₂ u pu lu (dec_le u n))
      where
        go₂ : (u : ℕ) → 0 < u → u ≤ suc n → Dec (u ≤ n) → u < f u
        go₂ u pu lu (yes l) = h u pu l
        go₂ u pu lu (no l) = let e' : u ≡ suc n = omega arith in rw e' (omega arith)

-- A least answer of f that is at most T.
pub record Answer (f : ℕ → ℕ) (T : ℕ) : Type 0 where
  pub value : ℕ
  pub least : Least f value
  pub fits : value ≤ T

module _ {f : ℕ → ℕ} (m : Rising f) where
  -- A positive T with f T ≤ T is a ceiling: there is a least answer, and it is at most T.
  pub answer : (T : ℕ) → 0 < T → f T ≤ T → Answer f T
  answer T p h = go (first f T)
    where
      go : First f T → Answer f T
      go (found t pt l e b) =
          record { value = t; least = below_stop m pt b (both_ways (f t) t e (below_rises m pt b)); fits = l }
      go (none n) = absurd (omega (arith, n T p (omega arith)))

  pub least_below : {L : ℕ} → Least f L → Below f L
  least_below {L} l u p h =
      let a : Answer f u = answer u p h in
      omega (arith, l.least a.value a.least.pos a.least.answer, a.fits)

-- A smaller function has a smaller least answer.
pub least_mono : {f g : ℕ → ℕ} {K L : ℕ} → Rising f → ((t : ℕ) → f t ≤ g t) → Least f K → Least g L → K ≤ L
least_mono {f} {g} {K} {L} m h k l = least_below m k L l.pos (omega (arith, h L, l.answer))

-- The search t, f t, f (f t), .. by n steps, for worked examples.
unfoldable pub iterate : (ℕ → ℕ) → ℕ → ℕ → ℕ
iterate f zero t = t
iterate f (suc n) t = iterate f n (f t)

module _ {f : ℕ → ℕ} (m : Rising f) where
  pub iterate_below : (n t : ℕ) → 0 < t → Below f t → (0 < iterate f n t) × Below f (iterate f n t)
  unfolding iterate
  iterate_below zero t p b = (p, b)
  iterate_below (suc n) t p b = iterate_below n (f t) (m.pos t p) (below_step m b)

  pub iterate_least : (n : ℕ) → f (iterate f n 1) ≡ iterate f n 1 → Least f (iterate f n 1)
  iterate_least n e =
      below_stop m (iterate_below n 1 (omega arith) (below_one f)).0 (iterate_below n 1 (omega arith) (below_one f)).1 e

  pub iterate_none : (n limit : ℕ) → limit < iterate f n 1 → Unanswered f limit
  iterate_none n limit h = below_past m (iterate_below n 1 (omega arith) (below_one f)).1 h
