-- Laws of decimal numbers: their digits, and the number that digits spell.
use Rattle.std.specs.Prelude.{ℕ, zero, suc, ◌+◌, ◌*◌, ◌-◌, ◌/◌, ◌%◌, ◌^◌, ◌≤◌, ◌<◌, ◌≡◌, refl, List, [], ◌∷◌, ◌++◌, length, get_or}
use Rattle.std.proofs.Common.{sym, ◌∙◌, ap, append_assoc, append-nil, pow-suc, add-zero, mul-le-mul_right, arith, lt-ltb, le-ltb, length-append}
use Rattle.std.proofs.Math.Nat.{pow-le-pow_right}
use Rattle.std.proofs.Math.Decide.{dec_lt}
use Rattle.std.proofs.Math.ListN.{get_or-append}
use Rattle.std.proofs.lemmas.List.{get_or_at}
use Rattle.std.proofs.lemmas.Fmt.{decimal_from_appends, length-decimal-le}
use Rattle.std.specs.Fmt as Std
use Rattle.text.specs.Text.{digits, decimal}

-- Below 10 there is one digit;
pub digits_one : (k n : ℕ) → n < 10 → digits (suc k) n ≡ (48 + n) ∷ []
unfolding digits
digits_one k n h = simp (lt-ltb n 10 h)

-- from 10 on the last digit follows those of n / 10.
pub digits_more : (k n : ℕ) → 10 ≤ n → digits (suc k) n ≡ digits k (n / 10) ++ ((48 + n % 10) ∷ [])
unfolding digits
digits_more k n h = simp (le-ltb n 10 h)

-- What holds in both cases holds of the digits.
digits_cases :
    (P : List ℕ → Type 0) (k n : ℕ) → (n < 10 → P ((48 + n) ∷ []))
    → (10 ≤ n → P (digits k (n / 10) ++ ((48 + n % 10) ∷ []))) → P (digits (suc k) n)
digits_cases P k n one more = go (dec_lt n 10)
  where
    go : Dec (n < 10) → P (digits (suc k) n)
    go (yes h) = rw (digits_one k n h) (one h)
    go (no h) = let h' : 10 ≤ n = omega arith in rw (digits_more k n h') (more h')

length_next : (bs : List ℕ) (b : ℕ) → length (bs ++ (b ∷ [])) ≡ length bs + 1
length_next bs b = length-append bs (b ∷ [])

-- A tenth takes one digit less,
pub tenth : (k n : ℕ) → n < 10 ^ suc k → n / 10 < 10 ^ k
tenth k n h = let h' : n < 10 ^ k * 10 = rw pow-suc at h in omega arith

-- and from 10 on that is still one.
pub tenth_some : (k n : ℕ) → 10 ≤ n → n < 10 ^ suc k → 0 < k
tenth_some zero n h l = absurd (omega arith)
tenth_some (suc k) n h l = omega arith

-- How many digits are allowed makes no difference once they hold the number.
pub digits_enough : (k j n : ℕ) → 0 < k → 0 < j → n < 10 ^ k → n < 10 ^ j → digits k n ≡ digits j n
digits_enough zero j n p q a b = absurd (omega arith)
digits_enough (suc k) zero n p q a b = absurd (omega arith)
digits_enough (suc k) (suc j) n p q a b =
    digits_cases (λ t. t ≡ digits (suc j) n) k n (λ h. sym (digits_one j n h))
    (λ h. ap (λ (t : List ℕ). t ++ ((48 + n % 10) ∷ []))
    (digits_enough k j (n / 10) (tenth_some k n h a) (tenth_some j n h b) (tenth k n a) (tenth j n b))
    ∙ sym (digits_more j n h))

-- At least one digit,
pub digits_some : (k n : ℕ) → 0 < k → 0 < length (digits k n)
digits_some zero n h = absurd (omega arith)
digits_some (suc k) n h =
    digits_cases (λ t. 0 < length t) k n (λ l. omega arith)
    (λ l. omega (arith, length_next (digits k (n / 10)) (48 + n % 10)))

-- no more than allowed,
pub digits_most : (k n : ℕ) → length (digits k n) ≤ k
unfolding digits
digits_most zero n = omega arith
digits_most (suc k) n =
    digits_cases (λ t. length t ≤ suc k) k n (λ l. omega arith)
    (λ l. omega (arith, digits_most k (n / 10), length_next (digits k (n / 10)) (48 + n % 10)))

-- and no more than hold the number.
pub digits_few : (j k n : ℕ) → 0 < k → n < 10 ^ k → length (digits j n) ≤ k
unfolding digits
digits_few zero k n p h = omega arith
digits_few (suc j) zero n p h = absurd (omega arith)
digits_few (suc j) (suc k) n p h =
    digits_cases (λ t. length t ≤ suc k) j n (λ l. omega arith)
    (λ l. omega (arith, digits_few j k (n / 10) (tenth_some k n l h) (tenth k n h), length_next (digits j (n / 10)) (48 + n % 10)))

-- The first digit is 0 of the number 0 alone.
pub digits_lead : (k n : ℕ) → 0 < k → n < 10 ^ k → get_or (digits k n) 0 0 ≡ 48 → n ≡ 0
digits_lead zero n p h e = absurd (omega arith)
digits_lead (suc k) n p h e =
    digits_cases (λ t. get_or t 0 0 ≡ 48 → n ≡ 0) k n (λ l first. omega arith)
    (λ l first. (let q : 0 < k = tenth_some k n l h in
    let same = get_or-append (digits k (n / 10)) ((48 + n % 10) ∷ []) 0 0 (digits_some k (n / 10) q) in
    omega (arith, digits_lead k (n / 10) q (tenth k n h) (sym same ∙ first)))) e

-- Each byte is a digit, from 48 to 57.
abbrev pub AllDigits : List ℕ → Type 0
AllDigits bs = (i : ℕ) → i < length bs → (48 ≤ get_or bs i 0) × (get_or bs i 0 ≤ 57)

all_next : (bs : List ℕ) (b : ℕ) → AllDigits bs → 48 ≤ b → b ≤ 57 → AllDigits (bs ++ (b ∷ []))
all_next bs b d l h i g = go (dec_lt i (length bs))
  where
    go : Dec (i < length bs) → (48 ≤ get_or (bs ++ (b ∷ [])) i 0) × (get_or (bs ++ (b ∷ [])) i 0 ≤ 57)
    go (yes q) = rw (get_or-append bs (b ∷ []) 0 i q) (d i q)
    go (no q) = let e : length bs ≡ i = omega (arith, length_next bs b) in rw (get_or_at bs b [] 0 i e) (l, h)

pub digits_all : (k n : ℕ) → AllDigits (digits k n)
unfolding digits
digits_all zero n = λ i h. absurd (omega arith)
digits_all (suc k) n =
    digits_cases AllDigits k n (λ l. all_next [] (48 + n) (λ i h. absurd (omega arith)) (omega arith) (omega arith))
    (λ l. all_next (digits k (n / 10)) (48 + n % 10) (digits_all k (n / 10)) (omega arith) (omega arith))

-- Reading digits.

-- The number that the bytes spell as digits, behind the number acc that was read before them.
unfoldable pub value_of : ℕ → List ℕ → ℕ
value_of acc [] = acc
value_of acc (b ∷ bs) = value_of (acc * 10 + (b - 48)) bs

pub value_of_more : (acc b : ℕ) (bs : List ℕ) → value_of acc (b ∷ bs) ≡ value_of (acc * 10 + (b - 48)) bs
unfolding value_of
value_of_more acc b bs = refl

-- Behind what the first bytes spell the others are read.
pub value_of_append : (acc : ℕ) (a b : List ℕ) → value_of acc (a ++ b) ≡ value_of (value_of acc a) b
unfolding value_of
value_of_append acc [] b = refl
value_of_append acc (c ∷ a) b = value_of_append (acc * 10 + (c - 48)) a b

-- Read back, the digits of a number give the number.
pub digits_value : (k n : ℕ) → n < 10 ^ k → value_of 0 (digits k n) ≡ n
unfolding digits value_of
digits_value zero n h = omega arith
digits_value (suc k) n h =
    digits_cases (λ t. value_of 0 t ≡ n) k n (λ l. omega arith)
    (λ l. value_of_append 0 (digits k (n / 10)) ((48 + n % 10) ∷ []) ∙ omega (arith, digits_value k (n / 10) (tenth k n h)))

-- Digits spell a number that takes no more digits than they are.
pub value_of_less : (acc : ℕ) (bs : List ℕ) → AllDigits bs → value_of acc bs < (acc + 1) * 10 ^ length bs
unfolding value_of
value_of_less acc [] d = omega arith
value_of_less acc (b ∷ bs) d =
    let next = acc * 10 + (b - 48) in
    rw (pow-suc 10 (length bs))
    (omega (
      arith,
      value_of_less next bs (λ i h. d (suc i) (omega arith)),
      mul-le-mul_right {m = next + 1} {n = (acc + 1) * 10} (10 ^ length bs) (omega (arith, d 0 (omega arith))),
    ))

-- A number above 0 and digits behind it are spelt by its own digits and those.
digits_read :
    (k acc : ℕ) (bs : List ℕ) → 0 < acc → AllDigits bs → digits (k + length bs) (value_of acc bs) ≡ digits k acc ++ bs
unfolding value_of
digits_read k acc [] p d = rw (add-zero k) (sym (append-nil (digits k acc)))
digits_read k acc (b ∷ bs) p d =
    let l = d 0 (omega arith) in
    let next = acc * 10 + (b - 48) in
    let e : k + suc (length bs) ≡ suc k + length bs = omega arith in
    let q : next / 10 ≡ acc = omega arith in
    let r : 48 + next % 10 ≡ b = omega arith in
    let s : digits (suc k) next ≡ digits k acc ++ (b ∷ []) =
    digits_more k next (omega arith) ∙ ap (λ (m : ℕ). digits k m ++ ((48 + next % 10) ∷ [])) q
    ∙ ap (λ (m : ℕ). digits k acc ++ (m ∷ [])) r in
    ap (λ (m : ℕ). digits m (value_of next bs)) e
    ∙ digits_read (suc k) next bs (omega arith) (λ i h. d (suc i) (omega arith))
    ∙ ap (λ (t : List ℕ). t ++ bs) s ∙ append_assoc (digits k acc) (b ∷ []) bs

-- Numbers as text.

-- As many digits as hold the number are enough.
pub decimal_digits : (k n : ℕ) → 0 < k → k ≤ 20 → n < 10 ^ k → decimal n ≡ digits k n
unfolding decimal
decimal_digits k n p h l =
    digits_enough 20 k n (omega arith) p
    (omega (arith, pow-le-pow_right {n = 10} (omega arith) {i = k} {j = 20} h)) l

pub decimal_zero : decimal 0 ≡ 48 ∷ []
unfolding decimal
decimal_zero = digits_one 19 0 (omega arith)

pub decimal_all : (n : ℕ) → AllDigits (decimal n)
unfolding decimal
decimal_all n = digits_all 20 n

pub decimal_some : (n : ℕ) → 0 < length (decimal n)
unfolding decimal
decimal_some n = digits_some 20 n (omega arith)

pub decimal_most : (n : ℕ) → length (decimal n) ≤ 20
unfolding decimal
decimal_most n = digits_most 20 n

pub decimal_few : (k n : ℕ) → 0 < k → n < 10 ^ k → length (decimal n) ≤ k
unfolding decimal
decimal_few k n p h = digits_few 20 k n p h

pub decimal_lead : (n : ℕ) → n < 10 ^ 20 → get_or (decimal n) 0 0 ≡ 48 → n ≡ 0
unfolding decimal
decimal_lead n h e = digits_lead 20 n (omega arith) h e

-- Read back, the text of a number gives the number.
pub decimal_value : (n : ℕ) → n < 10 ^ 20 → value_of 0 (decimal n) ≡ n
unfolding decimal
decimal_value n h = digits_value 20 n h

-- The form of a number's text: 1 to 20 digits, and a leading 0 stands alone.
pub record Numeral (bs : List ℕ) : Type 0 where
  pub some : 0 < length bs
  pub most : length bs ≤ 20
  pub digit : AllDigits bs
  pub lead : get_or bs 0 0 ≡ 48 → length bs ≡ 1

-- The text of a number has the form,
pub decimal_numeral : (n : ℕ) → n < 10 ^ 20 → Numeral (decimal n)
decimal_numeral n h =
    record {
      some = decimal_some n;
      most = decimal_most n;
      digit = decimal_all n;
      lead = λ e. ap (λ (m : ℕ). length (decimal m)) (decimal_lead n h e) ∙ ap length decimal_zero;
    }

pub numeral_less : (bs : List ℕ) → Numeral bs → value_of 0 bs < 10 ^ length bs
numeral_less bs f = omega (arith, value_of_less 0 bs f.digit)

-- Digits after a first one that is not 0 spell a number that is spelt so.
numeral_after :
    (b : ℕ) (bs : List ℕ) → 48 < b → b ≤ 57 → AllDigits bs → digits (suc (length bs)) (value_of 0 (b ∷ bs)) ≡ b ∷ bs
unfolding value_of
numeral_after b bs l h d =
    let first = 0 * 10 + (b - 48) in
    let one : digits 1 first ≡ b ∷ [] = digits_one 0 first (omega arith) ∙ ap (λ (m : ℕ). m ∷ []) (omega arith) in
    ap (λ (m : ℕ). digits m (value_of first bs)) (omega arith) ∙ digits_read 1 first bs (omega arith) d
    ∙ ap (λ (t : List ℕ). t ++ bs) one

numeral_spelt : (bs : List ℕ) → Numeral bs → digits (length bs) (value_of 0 bs) ≡ bs
unfolding value_of
numeral_spelt [] f = absurd (omega arith)
numeral_spelt (b ∷ bs) f = go (dec_lt 48 b) bs f
  where
    go : Dec (48 < b) → (bs : List ℕ) → Numeral (b ∷ bs) → digits (suc (length bs)) (value_of 0 (b ∷ bs)) ≡ b ∷ bs
    go (yes h) bs f = numeral_after b bs h (f.digit 0 (omega arith)).1 (λ i l. f.digit (suc i) (omega arith))
    go (no h) [] f =
        let l = f.digit 0 (omega arith) in
        digits_one 0 (0 * 10 + (b - 48)) (omega arith) ∙ ap (λ (m : ℕ). m ∷ []) (omega arith)
    go (no h) (c ∷ bs) f = absurd (omega (arith, f.lead (omega (arith, f.digit 0 (omega arith)))))

-- and what has the form is the text of the number that it spells.
pub numeral_value : (bs : List ℕ) → Numeral bs → decimal (value_of 0 bs) ≡ bs
numeral_value bs f =
    decimal_digits (length bs) (value_of 0 bs) f.some f.most (numeral_less bs f) ∙ numeral_spelt bs f

-- It is what std writes of a number of 64 bits.
pub decimal_std : (n : ℕ) → n < 2 ^ 64 → decimal n ≡ Std.decimal n
unfolding decimal
decimal_std n h =
    decimal_from_appends digits (record { one = digits_one; more = digits_more }) 20 n h
    (length-decimal-le 20 n (omega arith) (omega arith) h)
