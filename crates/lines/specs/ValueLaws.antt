-- Reading a value gives what was written, and a value that is read is what stands there.
use Rattle.std.specs.Prelude.{ℕ, zero, suc, ◌+◌, ◌*◌, ◌-◌, ◌^◌, ◌≤◌, ◌<◌, ◌≡◌, refl, Bool, true, false, cond, List, [], ◌∷◌, ◌++◌, leb, eqb, length, get_or, drop, Some, None}
use Rattle.std.proofs.Common.{sym, ◌∙◌, ap, add-zero, add-one, arith, leb-true, eq-eqb, eqb-true, drop-cons, drop-drop, get_or-drop}
use Rattle.std.proofs.Math.Nat.{pow-le-pow_right}
use Rattle.facts.specs.TestsLaws.{and_left, and_right}
use Rattle.text.specs.Text.{decimal}
use Rattle.text.specs.NumeralLaws.{AllDigits, Numeral, value_of, value_of_more, numeral_value, numeral_less, decimal_numeral, decimal_value, decimal_few}
use Rattle.lines.specs.Line.{Line, is_digit, digits_from, value_from}
use Rattle.lines.specs.LineLaws.{digit_yes, digits_lf, digits_more, inside}

-- A number's text and an LF stand in the file from the place on.
pub record NumberThere (file : List ℕ) (place value behind : ℕ) : Type 0 where
  pub small : value < 10 ^ 9
  pub ends : place + length (decimal value) + 1 ≡ behind
  pub there : drop place file ≡ decimal value ++ (10 ∷ drop behind file)

-- One byte of a file.

-- What follows a place begins with the byte there.
pub head_is : (file : List ℕ) (place b : ℕ) (rest : List ℕ) → drop place file ≡ b ∷ rest → get_or file place 0 ≡ b
head_is file place b rest e =
    ap (λ (i : ℕ). get_or file i 0) (sym (add-zero place)) ∙ sym (get_or-drop place file 0 0) ∙ ap (λ (l : List ℕ). get_or l 0 0) e

pub tail_is : (file : List ℕ) (place b : ℕ) (rest : List ℕ) → drop place file ≡ b ∷ rest → drop (place + 1) file ≡ rest
tail_is file place b rest e = sym (drop-drop 1 place file) ∙ ap (λ (l : List ℕ). drop 1 l) e

byte_there : (file : List ℕ) (place b : ℕ) → get_or file place 0 ≡ b → 0 < b → drop place file ≡ b ∷ drop (place + 1) file
byte_there file place b e h =
    rw (add-one place) (drop-cons file place 0 (inside file place (omega arith)) ∙ ap (λ (x : ℕ). x ∷ drop (suc place) file) e)

-- Digits.

digit_least : (b : ℕ) → is_digit b ≡ true → 48 ≤ b
unfolding is_digit
digit_least b e = leb-true 48 b (and_left (leb 48 b) (leb b 57) e)

digit_most : (b : ℕ) → is_digit b ≡ true → b ≤ 57
unfolding is_digit
digit_most b e = leb-true b 57 (and_right (leb 48 b) (leb b 57) e)

-- A digit goes to the value.
digit_read :
    (left : ℕ) (file : List ℕ) (place value b : ℕ) → get_or file place 0 ≡ b → 48 ≤ b → b ≤ 57
    → digits_from (suc left) file place value ≡ digits_from left file (place + 1) (value * 10 + (b - 48))
digit_read left file place value b e l h =
    ap (λ (n : ℕ). digits_from n file place value) (sym (add-one left))
    ∙ digits_more file place value left (omega arith) (omega arith)
    ∙ ap (λ (x : ℕ). digits_from left file (place + 1) (value * 10 + (x - 48))) e

-- Digits and an LF give the number that they spell.
digits_read :
    (ds : List ℕ) (left : ℕ) (file rest : List ℕ) (place value : ℕ) → AllDigits ds → length ds ≤ left
    → drop place file ≡ ds ++ (10 ∷ rest) → digits_from left file place value ≡ Some (value_of value ds, place + length ds + 1)
unfolding value_of
digits_read [] left file rest place value d l e =
    digits_lf file place value left (head_is file place 10 rest e) ∙ ap (λ (n : ℕ). Some (value, n + 1)) (sym (add-zero place))
digits_read (b ∷ ds) zero file rest place value d l e = absurd (omega arith)
digits_read (b ∷ ds) (suc left) file rest place value d l e =
    let h = d 0 (omega arith) in
    let n : place + 1 + length ds ≡ place + suc (length ds) = omega arith in
    digit_read left file place value b (head_is file place b (ds ++ (10 ∷ rest)) e) h.0 h.1
    ∙ digits_read ds left file rest (place + 1) (value * 10 + (b - 48)) (λ i g. d (suc i) (omega arith)) (omega arith)
    (tail_is file place b (ds ++ (10 ∷ rest)) e)
    ∙ ap (λ (m : ℕ). Some (value_of (value * 10 + (b - 48)) ds, m + 1)) n

-- How many digits may follow the first one.
abbrev more : ℕ → ℕ
more b = cond (eqb b 48) 0 8

first_read :
    (file : List ℕ) (place b : ℕ) → get_or file place 0 ≡ b → 48 ≤ b → b ≤ 57
    → value_from file place ≡ digits_from (more b) file (place + 1) (b - 48)
unfolding value_from
first_read file place b e l h = rw (e, digit_yes b l h)

-- A number's text and an LF give the number.
numeral_read :
    (bs file rest : List ℕ) (place : ℕ) → Numeral bs → length bs ≤ 9 → drop place file ≡ bs ++ (10 ∷ rest)
    → value_from file place ≡ Some (value_of 0 bs, place + length bs + 1)
numeral_read [] file rest place f l e = absurd (omega (arith, f.some))
numeral_read (b ∷ bs) file rest place f l e = go (eqb b 48) refl
  where
    first : get_or file place 0 ≡ b
    first = head_is file place b (bs ++ (10 ∷ rest)) e

    onward : length bs ≤ more b → value_from file place ≡ Some (value_of 0 (b ∷ bs), place + length (b ∷ bs) + 1)
    onward h =
        let n : place + 1 + length bs ≡ place + suc (length bs) = omega arith in
        let m : b - 48 ≡ 0 * 10 + (b - 48) = omega arith in
        let d = f.digit 0 (omega arith) in
        first_read file place b first d.0 d.1
        ∙ digits_read bs (more b) file rest (place + 1) (b - 48) (λ i g. f.digit (suc i) (omega arith)) h
        (tail_is file place b (bs ++ (10 ∷ rest)) e)
        ∙ ap (λ (k : ℕ). Some (value_of (b - 48) bs, k + 1)) n
        ∙ ap (λ (k : ℕ). Some (value_of k bs, place + suc (length bs) + 1)) m
        ∙ ap (λ (k : ℕ). Some (k, place + suc (length bs) + 1)) (sym (value_of_more 0 b bs))

    go : (t : Bool) → eqb b 48 ≡ t → value_from file place ≡ Some (value_of 0 (b ∷ bs), place + length (b ∷ bs) + 1)
    go true t = onward (rw t (omega (arith, f.lead (eqb-true b 48 t))))
    go false t = onward (rw t (omega arith))

-- A value that stands there as text is read.
pub number_read :
    (file : List ℕ) (place value behind : ℕ) → NumberThere file place value behind
    → value_from file place ≡ Some (value, behind)
number_read file place value behind s =
    let small : value < 10 ^ 20 = omega (arith, s.small) in
    numeral_read (decimal value) file (drop behind file) place (decimal_numeral value small)
    (decimal_few 9 value (omega arith) s.small) s.there
    ∙ rw (decimal_value value small, s.ends)

-- What is read stands there.

-- Digits and an LF stand in the file from a place on, and spell the value behind what was read before.
record Spelt (left : ℕ) (file : List ℕ) (place before value behind : ℕ) : Type 0 where
  bytes : List ℕ
  digit : AllDigits bytes
  few : length bytes ≤ left
  spells : value_of before bytes ≡ value
  ends : place + length bytes + 1 ≡ behind
  there : drop place file ≡ bytes ++ (10 ∷ drop behind file)

pub same_value : {a b v w : ℕ} → ◌≡◌ {A = Line} (Some (a, b)) (Some (v, w)) → (a ≡ v) × (b ≡ w)
same_value {a} {b} {v} {w} e =
    let value : Line → ℕ = elim [ None ↦ 0 | Some x ↦ x.0 ] in
    let behind : Line → ℕ = elim [ None ↦ 0 | Some x ↦ x.1 ] in
    (ap value e, ap behind e)

pub no_line : {v behind : ℕ} → ◌≡◌ {A = Line} None (Some (v, behind)) → ⊥
no_line {v} {behind} e = let z : ◌≡◌ {A = ℕ} 0 1 = cc in omega arith

lf_found :
    (left : ℕ) (file : List ℕ) (place before value behind : ℕ) → get_or file place 0 ≡ 10
    → digits_from left file place before ≡ Some (value, behind) → Spelt left file place before value behind
unfolding value_of
lf_found left file place before value behind e r =
    let s = same_value (sym (digits_lf file place before left e) ∙ r) in
    record {
      bytes = [];
      digit = λ i h. absurd (omega arith);
      few = omega arith;
      spells = s.0;
      ends = omega arith;
      there = rw (← s.1) (byte_there file place 10 e (omega arith));
    }

digit_found :
    (left : ℕ) (file : List ℕ) (place before value behind : ℕ) → is_digit (get_or file place 0) ≡ true
    → Spelt left file (place + 1) (before * 10 + (get_or file place 0 - 48)) value behind
    → Spelt (suc left) file place before value behind
unfolding value_of
digit_found left file place before value behind e s = record {
  bytes = b ∷ s.bytes;
  digit = each;
  few = omega (arith, s.few);
  spells = s.spells;
  ends = omega (arith, s.ends);
  there = byte_there file place b refl (omega (arith, digit_least b e)) ∙ ap (λ (t : List ℕ). b ∷ t) s.there;
}
  where
    b : ℕ
    b = get_or file place 0

    each : AllDigits (b ∷ s.bytes)
    each zero h = (digit_least b e, digit_most b e)
    each (suc i) h = s.digit i (omega arith)

digits_found :
    (left : ℕ) (file : List ℕ) (place before value behind : ℕ) → digits_from left file place before ≡ Some (value, behind)
    → Spelt left file place before value behind
unfolding digits_from
digits_found zero file place before value behind e = go (eqb (get_or file place 0) 10) refl
  where
    go : (t : Bool) → eqb (get_or file place 0) 10 ≡ t → Spelt zero file place before value behind
    go true t = lf_found zero file place before value behind (eqb-true _ 10 t) e
    go false t = absurd (no_line (rw t at e))
digits_found (suc left) file place before value behind e = go (eqb (get_or file place 0) 10) refl (is_digit (get_or file place 0)) refl
    (digits_found left file (place + 1) (before * 10 + (get_or file place 0 - 48)) value behind)
  where
    go :
        (t : Bool) → eqb (get_or file place 0) 10 ≡ t → (u : Bool) → is_digit (get_or file place 0) ≡ u
        → (digits_from left file (place + 1) (before * 10 + (get_or file place 0 - 48)) ≡ Some (value, behind) → Spelt left file (place + 1) (before * 10 + (get_or file place 0 - 48)) value behind)
        → Spelt (suc left) file place before value behind
    go true t u d ih = lf_found (suc left) file place before value behind (eqb-true _ 10 t) e
    go false t true d ih = digit_found left file place before value behind d (ih (rw (t, d) at e))
    go false t false d ih = absurd (no_line (rw (t, d) at e))

number_there :
    (bs file : List ℕ) (place value behind : ℕ) → Numeral bs → length bs ≤ 9 → value_of 0 bs ≡ value
    → place + length bs + 1 ≡ behind → drop place file ≡ bs ++ (10 ∷ drop behind file) → NumberThere file place value behind
number_there bs file place value behind f l v e t =
    let d : decimal value ≡ bs = ap decimal (sym v) ∙ numeral_value bs f in
    record {
      small = omega (arith, v, numeral_less bs f, pow-le-pow_right {n = 10} (omega arith) {i = length bs} {j = 9} l);
      ends = rw d e;
      there = rw d t;
    }

more_most : (b : ℕ) → more b ≤ 8
more_most b = go (eqb b 48)
  where
    go : (t : Bool) → cond t 0 8 ≤ 8
    go true = omega arith
    go false = omega arith

first_numeral : (b : ℕ) (bs : List ℕ) → 48 ≤ b → b ≤ 57 → AllDigits bs → length bs ≤ more b → Numeral (b ∷ bs)
first_numeral b bs l h d few = record {
  some = omega arith;
  most = omega (arith, more_most b);
  digit = each;
  lead = λ e. (let few' : length bs ≤ 0 = rw (eq-eqb b 48 e) at few in omega arith);
}
  where
    each : AllDigits (b ∷ bs)
    each zero g = (l, h)
    each (suc i) g = d i (omega arith)

first_found :
    (file : List ℕ) (place b value behind : ℕ) → get_or file place 0 ≡ b → 48 ≤ b → b ≤ 57
    → Spelt (more b) file (place + 1) (b - 48) value behind → NumberThere file place value behind
first_found file place b value behind e l h s =
    let m : 0 * 10 + (b - 48) ≡ b - 48 = omega arith in
    number_there (b ∷ s.bytes) file place value behind
    (first_numeral b s.bytes l h s.digit s.few)
    (omega (arith, s.few, more_most b))
    (value_of_more 0 b s.bytes ∙ ap (λ (k : ℕ). value_of k s.bytes) m ∙ s.spells)
    (omega (arith, s.ends))
    (byte_there file place b e (omega arith) ∙ ap (λ (t : List ℕ). b ∷ t) s.there)

-- A value that is read stands there as text.
pub number_found :
    (file : List ℕ) (place value behind : ℕ) → value_from file place ≡ Some (value, behind)
    → NumberThere file place value behind
unfolding value_from
number_found file place value behind e = go (is_digit (get_or file place 0)) refl
  where
    go : (t : Bool) → is_digit (get_or file place 0) ≡ t → NumberThere file place value behind
    go false t = absurd (no_line (rw t at e))
    go true t =
        first_found file place (get_or file place 0) value behind refl (digit_least _ t) (digit_most _ t)
        (digits_found (more (get_or file place 0)) file (place + 1) (get_or file place 0 - 48) value behind (rw t at e))
