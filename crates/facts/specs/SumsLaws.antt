-- Laws of sums.
use Rattle.std.specs.Prelude.{◌≡◌, refl, ℕ, zero, suc, ◌+◌, ◌*◌, ◌≤◌, ◌<◌, Bool, true, false, cond, not, ◌&&◌, T, eqb}
use Rattle.std.proofs.Common.{ap, sym, ◌∙◌, arith, add-one, eq-eqb, ne_eqb}
use Rattle.std.proofs.Math.Decide.{ℕ_discrete, dec_lt}
use Rattle.facts.specs.Sums.{sum, sum_if}

pub sum_none : (f : ℕ → ℕ) → sum 0 f ≡ 0
unfolding sum
sum_none f = refl

pub sum_suc : (n : ℕ) (f : ℕ → ℕ) → sum (suc n) f ≡ sum n f + f n
unfolding sum
sum_suc n f = refl

-- The same for n + 1, as a loop's counter has it.
pub sum_more : (n : ℕ) (f : ℕ → ℕ) → sum (n + 1) f ≡ sum n f + f n
unfolding sum
sum_more n f = rw (add-one n) refl

pub sum_mono : (n : ℕ) {f g : ℕ → ℕ} → ((i : ℕ) → i < n → f i ≤ g i) → sum n f ≤ sum n g
unfolding sum
sum_mono zero h = omega arith
sum_mono (suc n) {f} {g} h =
    let ih : sum n f ≤ sum n g = sum_mono n (λ i l. h i (omega arith)) in
    omega (arith, h n (omega arith))

pub sum_ext : (n : ℕ) {f g : ℕ → ℕ} → ((i : ℕ) → i < n → f i ≡ g i) → sum n f ≡ sum n g
unfolding sum
sum_ext zero h = refl
sum_ext (suc n) {f} {g} h =
    let ih : sum n f ≡ sum n g = sum_ext n (λ i l. h i (omega arith)) in
    omega (arith, h n (omega arith))

-- The first terms alone sum to no more.
pub sum_part : (f : ℕ → ℕ) (m n : ℕ) → m ≤ n → sum m f ≤ sum n f
unfolding sum
sum_part f m zero h = let e : m ≡ 0 = omega arith in rw e (omega arith)
sum_part f m (suc n) h = go (dec_lt m (suc n)) (sum_part f m n)
  where
    go : Dec (m < suc n) → (m ≤ n → sum m f ≤ sum n f) → sum m f ≤ sum n f + f n
    go (yes l) ih = omega (arith, ih (omega arith))
    go (no l) ih = let e : m ≡ suc n = omega arith in rw (e, sum_suc n f) (omega arith)

pub sum_add : (n : ℕ) (f g : ℕ → ℕ) → sum n (λ i. f i + g i) ≡ sum n f + sum n g
unfolding sum
sum_add zero f g = refl
sum_add (suc n) f g = omega (arith, sum_add n f g)

pub sum_lt : (n : ℕ) {f g : ℕ → ℕ} → ((i : ℕ) → i < n → f i ≤ g i) → (j : ℕ) → j < n → f j < g j → sum n f < sum n g
unfolding sum
sum_lt zero h j l s = absurd (omega arith)
sum_lt (suc n) {f} {g} h j l s = go (ℕ_discrete j n) (λ k. sum_lt n (λ i a. h i (omega arith)) j k s)
  where
    go : Dec (j ≡ n) → (j < n → sum n f < sum n g) → sum n f + f n < sum n g + g n
    go (yes e) r = omega (arith, sum_mono n {f = f} {g = g} (λ i k. h i (omega arith)), rw e at s)
    go (no ne) r = omega (arith, r (omega arith), h n (omega arith))

-- A sum has each of its terms.
pub sum_has : (f : ℕ → ℕ) (n k : ℕ) → k < n → f k ≤ sum n f
unfolding sum
sum_has f zero k h = absurd (omega arith)
sum_has f (suc n) k h = go (dec_lt k n) (sum_has f n k)
  where
    go : Dec (k < n) → (k < n → f k ≤ sum n f) → f k ≤ sum n f + f n
    go (yes l) ih = omega (arith, ih l)
    go (no l) ih = let e : k ≡ n = omega arith in rw e (omega arith)

-- Each term at most m: the sum at most n × m.
pub sum_bound : (n : ℕ) (f : ℕ → ℕ) (m : ℕ) → ((i : ℕ) → i < n → f i ≤ m) → sum n f ≤ n * m
unfolding sum
sum_bound zero f m h = omega arith
sum_bound (suc n) f m h = omega (arith, sum_bound n f m (λ i l. h i (omega arith)), h n (omega arith))

cond_mono : (b c : Bool) {x y : ℕ} → (T b → T c × (x ≤ y)) → cond b x 0 ≤ cond c y 0
cond_mono true true h = (h tt).1
cond_mono true false h = absurd (h tt).0
cond_mono false c h = omega arith

cond_lt : (b : Bool) {x y : ℕ} → T b → x < y → cond b x 0 < cond b y 0
cond_lt true t h = h
cond_lt false t h = absurd t

cond_add : (b : Bool) (x y : ℕ) → cond b (x + y) 0 ≡ cond b x 0 + cond b y 0
cond_add true x y = refl
cond_add false x y = refl

cond_bound : (b : Bool) {x m : ℕ} → x ≤ m → cond b x 0 ≤ m
cond_bound true h = h
cond_bound false h = omega arith

pub sum_if_none : (b : ℕ → Bool) (f : ℕ → ℕ) → sum_if 0 b f ≡ 0
unfolding sum_if sum
sum_if_none b f = refl

pub sum_if_suc : (n : ℕ) (b : ℕ → Bool) (f : ℕ → ℕ) → sum_if (suc n) b f ≡ sum_if n b f + cond (b n) (f n) 0
unfolding sum_if sum
sum_if_suc n b f = refl

pub sum_if_more : (n : ℕ) (b : ℕ → Bool) (f : ℕ → ℕ) → sum_if (n + 1) b f ≡ sum_if n b f + cond (b n) (f n) 0
unfolding sum_if
sum_if_more n b f = sum_more n (λ i. cond (b i) (f i) 0)

-- Less in each place, and a test that passes no more, sum to less.
pub sum_if_mono₂ :
    {m n : ℕ} → m ≡ n → (b c : ℕ → Bool) {f g : ℕ → ℕ}
    → ((i : ℕ) → i < m → T (b i) → T (c i) × (f i ≤ g i)) → sum_if m b f ≤ sum_if n c g
unfolding sum_if
sum_if_mono₂ {m} e b c h = rw (← e) (sum_mono m (λ i l. cond_mono (b i) (c i) (h i l)))

pub sum_if_mono : (n : ℕ) (b : ℕ → Bool) {f g : ℕ → ℕ} → ((i : ℕ) → i < n → T (b i) → f i ≤ g i) → sum_if n b f ≤ sum_if n b g
sum_if_mono n b h = sum_if_mono₂ refl b b (λ i l t. (t, h i l t))

pub sum_if_lt :
    (n : ℕ) (b : ℕ → Bool) {f g : ℕ → ℕ} → ((i : ℕ) → i < n → T (b i) → f i ≤ g i)
    → (j : ℕ) → j < n → T (b j) → f j < g j → sum_if n b f < sum_if n b g
unfolding sum_if
sum_if_lt n b h j l t s = sum_lt n (λ i k. cond_mono (b i) (b i) (λ t. (t, h i k t))) j l (cond_lt (b j) t s)

pub sum_if_add : (n : ℕ) (b : ℕ → Bool) (f g : ℕ → ℕ) → sum_if n b (λ i. f i + g i) ≡ sum_if n b f + sum_if n b g
unfolding sum_if
sum_if_add n b f g =
    sum_ext n (λ i l. cond_add (b i) (f i) (g i)) ∙ sum_add n (λ i. cond (b i) (f i) 0) (λ i. cond (b i) (g i) 0)

pub sum_if_bound : (n : ℕ) (b : ℕ → Bool) (f : ℕ → ℕ) (m : ℕ) → ((i : ℕ) → i < n → f i ≤ m) → sum_if n b f ≤ n * m
unfolding sum_if
sum_if_bound n b f m h = sum_bound n (λ i. cond (b i) (f i) 0) m (λ i l. cond_bound (b i) (h i l))

-- The same tests and terms sum to the same.
pub sum_if_ext :
    {m n : ℕ} → m ≡ n → {b c : ℕ → Bool} {f g : ℕ → ℕ}
    → ((i : ℕ) → i < m → b i ≡ c i) → ((i : ℕ) → i < m → f i ≡ g i) → sum_if m b f ≡ sum_if n c g
unfolding sum_if
sum_if_ext {m} e {b} {c} {f} {g} t h =
    rw (← e)
    (sum_ext m {f = λ i. cond (b i) (f i) 0} {g = λ i. cond (c i) (g i) 0} (λ i l. rw (t i l, h i l)))

-- One term taken out of a sum.
pub sum_if_without :
    (n : ℕ) (b : ℕ → Bool) (f : ℕ → ℕ) (r : ℕ) → r < n → b r ≡ true
    → sum_if n b f ≡ sum_if n (λ k. b k && not (eqb k r)) f + f r
sum_if_without zero b f r l t = absurd (omega arith)
sum_if_without (suc n) b f r l t = go (ℕ_discrete r n) (λ h. sum_if_without n b f r h t)
  where
    but : ℕ → Bool
    but k = b k && not (eqb k r)

    here : (x : Bool) → x && true ≡ x
    here true = refl
    here false = refl

    none : (x : Bool) → x && false ≡ false
    none true = refl
    none false = refl

    other : (k : ℕ) → (k ≡ r → ⊥) → but k ≡ b k
    other k ne = rw (ne_eqb k r ne) (here (b k))

    own : r ≡ n → but n ≡ false
    own e = rw (eq-eqb n r (sym e)) (none (b n))

    go : Dec (r ≡ n) → (r < n → sum_if n b f ≡ sum_if n but f + f r) → sum_if (suc n) b f ≡ sum_if (suc n) but f + f r
    go (yes e) ih =
        let same : sum_if n b f ≡ sum_if n but f = sum_if_ext refl (λ i h. sym (other i (λ q. omega arith))) (λ i h. refl) in
        let there : b n ≡ true = rw e at t in
        let first : sum_if (suc n) b f ≡ sum_if n b f + f n = sum_if_suc n b f ∙ rw there in
        let second : sum_if (suc n) but f ≡ sum_if n but f + 0 = sum_if_suc n but f ∙ rw (own e) in
        omega (arith, same, first, second, ap f e)
    go (no ne) ih =
        let second : sum_if (suc n) but f ≡ sum_if n but f + cond (b n) (f n) 0 = sum_if_suc n but f ∙ rw (other n (λ q. ne (sym q))) in
        omega (arith, sum_if_suc n b f, second, ih (omega arith))
