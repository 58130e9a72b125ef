-- Laws of tests.
use Rattle.std.specs.Prelude.{ℕ, zero, suc, ◌+◌, ◌<◌, ◌≡◌, refl, Bool, true, false, cond, ◌&&◌, ltb}
use Rattle.std.proofs.Common.{lt-ltb, le-ltb, arith, add-one}
use Rattle.std.proofs.Math.Decide.{dec_lt}
use Rattle.facts.specs.Tests.{all, lowest}

-- A test cannot both pass and fail.
pub clash : {b : Bool} → b ≡ true → b ≡ false → ⊥
clash {b} s t = let z : ◌≡◌ {A = ℕ} 0 1 = cc in omega arith

-- Two tests that both pass, and what each says.
pub and_true : {a b : Bool} → a ≡ true → b ≡ true → a && b ≡ true
and_true s t = rw (s, t)

pub and_left : (a b : Bool) → a && b ≡ true → a ≡ true
and_left true b e = refl
and_left false b e = e

pub and_right : (a b : Bool) → a && b ≡ true → b ≡ true
and_right true b e = e
and_right false b e = absurd (clash e refl)

pub and_false : (a : Bool) → a && false ≡ false
and_false true = refl
and_false false = refl

pub all_none : (f : ℕ → Bool) → all 0 f ≡ true
unfolding all
all_none f = refl

pub all_more : (n : ℕ) (f : ℕ → Bool) → all n f ≡ true → f n ≡ true → all (n + 1) f ≡ true
unfolding all
all_more n f a b = rw (add-one n) (rw (a, b))

-- One that fails makes the whole fail.
pub all_fails : (n : ℕ) (f : ℕ → Bool) (k : ℕ) → k < n → f k ≡ false → all n f ≡ false
unfolding all
all_fails zero f k h e = absurd (omega arith)
all_fails (suc n) f k h e = go (dec_lt k n) (λ l. all_fails n f k l e)
  where
    go : Dec (k < n) → (k < n → all n f ≡ false) → all n f && f n ≡ false
    go (yes l) ih = rw (ih l)
    go (no l) ih =
        let q : k ≡ n = omega arith in
        let g : f n ≡ false = rw q at e in
        rw g (and_false (all n f))

pub all_at : (n : ℕ) (f : ℕ → Bool) → all n f ≡ true → (k : ℕ) → k < n → f k ≡ true
unfolding all
all_at zero f a k h = absurd (omega arith)
all_at (suc n) f a k h = go (dec_lt k n) (all_at n f)
  where
    go : Dec (k < n) → (all n f ≡ true → (k : ℕ) → k < n → f k ≡ true) → f k ≡ true
    go (yes l) ih = ih (and_left (all n f) (f n) a) k l
    go (no l) ih = let q : k ≡ n = omega arith in rw q (and_right (all n f) (f n) a)

-- Passing everywhere is passing the whole.
pub all_of : (n : ℕ) (f : ℕ → Bool) → ((k : ℕ) → k < n → f k ≡ true) → all n f ≡ true
unfolding all
all_of zero f h = refl
all_of (suc n) f h = and_true (all_of n f (λ k l. h k (omega arith))) (h n (omega arith))

-- The same test at each number below n is the same whole.
pub all_ext : (n : ℕ) {f g : ℕ → Bool} → ((k : ℕ) → k < n → f k ≡ g k) → all n f ≡ all n g
unfolding all
all_ext zero h = refl
all_ext (suc n) {f} {g} h =
    let a : all n f ≡ all n g = all_ext n (λ k l. h k (omega arith)) in
    let b : f n ≡ g n = h n (omega arith) in
    rw (a, b)

-- What a search for the lowest finds: nothing among n, or the first that passes.
pub data Lowest (n : ℕ) (f : ℕ → Bool) : ℕ → Type 0 where
  nowhere : ((k : ℕ) → k < n → f k ≡ false) → Lowest n f n
  here : (i : ℕ) → i < n → f i ≡ true → ((k : ℕ) → k < i → f k ≡ false) → Lowest n f i

pub lowest_found : (n : ℕ) (f : ℕ → Bool) → Lowest n f (lowest n f)
unfolding lowest
lowest_found zero f = nowhere (λ k l. absurd (omega arith))
lowest_found (suc n) f = go (lowest_found n f)
  where
    go : {i : ℕ} → Lowest n f i → Lowest (suc n) f (cond (ltb i n) i (cond (f n) n (suc n)))
    go (here i l e h) = rw (lt-ltb i n l) (here i (omega arith) e h)
    go (nowhere h) = rw (le-ltb n n (omega arith)) (last (f n) refl)
      where
        last : (b : Bool) → f n ≡ b → Lowest (suc n) f (cond b n (suc n))
        last true e = here n (omega arith) e h
        last false e = nowhere (λ k l. below k l (dec_lt k n))
          where
            below : (k : ℕ) → k < suc n → Dec (k < n) → f k ≡ false
            below k l (yes m) = h k m
            below k l (no m) = let q : k ≡ n = omega arith in rw q e

-- A search that has passed n numbers in vain goes on with the next.
pub lowest_none : (n : ℕ) (f : ℕ → Bool) → ((k : ℕ) → k < n → f k ≡ false) → lowest n f ≡ n
lowest_none n f h = go (lowest_found n f)
  where
    go : {i : ℕ} → Lowest n f i → i ≡ n
    go (nowhere g) = refl
    go (here i l e g) = absurd (clash e (h i l))

-- The first that passes is the lowest of any number more.
pub lowest_here : (n : ℕ) (f : ℕ → Bool) (i : ℕ) → i < n → f i ≡ true → ((k : ℕ) → k < i → f k ≡ false) → lowest n f ≡ i
lowest_here n f i l e h = go (lowest_found n f)
  where
    go : {j : ℕ} → Lowest n f j → j ≡ i
    go (nowhere g) = absurd (clash e (g i l))
    go (here j m d g) = same (dec_lt j i) (dec_lt i j)
      where
        same : Dec (j < i) → Dec (i < j) → j ≡ i
        same (yes a) b = absurd (clash d (h j a))
        same (no a) (yes b) = absurd (clash e (g i b))
        same (no a) (no b) = omega arith
