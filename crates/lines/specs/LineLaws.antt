-- Laws of a line, byte by byte.
use Prim.Native.Nat.{ℕ, zero, suc, ◌+◌, ◌*◌, ◌-◌, ◌^◌, ◌≤◌, ◌<◌}
use Rattle.std.specs.Prelude.{◌≡◌, refl, Bool, true, cond, List, [], ◌∷◌, ◌++◌, ltb, leb, length, take, Some, None}
use Rattle.std.specs.List.{list_all}
use Rattle.std.proofs.Common.{sym, ◌∙◌, ap, pow-suc, add-one, length-append}
use Rattle.std.proofs.Math.Bool.{false}
use native.Mathlib.Omega.{arith, by_contra}
use Rattle.std.proofs.Math.Nat.{pow-le-pow_right}
use borrow.Author.Tests.{le-leb, lt-leb, eq-eqb, ne_eqb, eqb-true}
use Rattle.std.proofs.Math.Dec.{eqb}
use Rattle.std.proofs.Math.ListN.{get_or, get_or-eq_default}
use Rattle.facts.specs.TestsLaws.{and_true, and_false, all_fails}
use Rattle.text.specs.Text.{Written, appended}
use Rattle.text.specs.TextLaws.{Holds, holds_none, holds_more}
use Rattle.lines.specs.KeyLaws.{EachKey, by_key}
use Rattle.lines.specs.Words.{words, word}
use Rattle.lines.specs.Line.{Line, is_digit, stands, digits_from, value_from, line_at}

-- A digit is a byte from 48 to 57.
pub digit_yes : (b : ℕ) → 48 ≤ b → b ≤ 57 → is_digit b ≡ true
unfolding is_digit
digit_yes b l h = and_true (le-leb 48 b l) (le-leb b 57 h)

pub digit_low : (b : ℕ) → b < 48 → is_digit b ≡ false
unfolding is_digit
digit_low b l = rw (lt-leb 48 b l)

pub digit_high : (b : ℕ) → 57 < b → is_digit b ≡ false
unfolding is_digit
digit_high b h = rw (lt-leb b 57 h) (and_false (leb 48 b))

module _ (file : List ℕ) (place value : ℕ) where
  -- An LF ends the value,
  pub digits_lf : (left : ℕ) → get_or file place 0 ≡ 10 → digits_from left file place value ≡ Some (value, place + 1)
  unfolding digits_from
  digits_lf zero e = simp (eq-eqb _ _ e)
  digits_lf (suc left) e = simp (eq-eqb _ _ e)

  -- a digit goes on with it if there may be more,
  pub digits_more :
      (left : ℕ) → 48 ≤ get_or file place 0 → get_or file place 0 ≤ 57
      → digits_from (left + 1) file place value ≡ digits_from left file (place + 1) (value * 10 + (get_or file place 0 - 48))
  unfolding digits_from
  digits_more left l h =
      let no_lf : eqb (get_or file place 0) 10 ≡ false = ne_eqb _ 10 (λ (q : get_or file place 0 ≡ 10). omega arith) in
      rw (add-one left) (simp (no_lf, digit_yes (get_or file place 0) l h))

  -- and is a fault if there may not;
  pub digits_full : (get_or file place 0 ≡ 10 → ⊥) → digits_from 0 file place value ≡ None
  unfolding digits_from
  digits_full n = simp (ne_eqb _ _ n)

  pub digits_spent : (left : ℕ) → left ≡ 0 → (get_or file place 0 ≡ 10 → ⊥) → digits_from left file place value ≡ None
  digits_spent left e n = rw e (digits_full n)

  -- any other byte is a fault,
  pub digits_other :
      (left : ℕ) → (get_or file place 0 ≡ 10 → ⊥) → is_digit (get_or file place 0) ≡ false
      → digits_from left file place value ≡ None
  unfolding digits_from
  digits_other zero n e = simp (ne_eqb _ _ n)
  digits_other (suc left) n e = simp (ne_eqb _ _ n, e)

  -- and so is the end of the file.
  pub digits_end : (left : ℕ) → length file ≤ place → digits_from left file place value ≡ None
  digits_end left h =
      let e : get_or file place 0 ≡ 0 = get_or-eq_default file 0 h in
      digits_other left (λ q. omega arith) (digit_low _ (omega arith))

-- A byte that isn't 0 stands in the file.
pub inside : (file : List ℕ) (place : ℕ) → 0 < get_or file place 0 → place < length file
inside file place h = by_contra (suc place) (length file) (λ b. omega (arith, get_or-eq_default file 0 {n = place} (omega arith)))

-- What stands in a line ends behind its start and within the file.
abbrev pub Behind : List ℕ → ℕ → Line → Type 0
Behind file place (Some (v, behind)) = (place < behind) × (behind ≤ length file)
Behind file place None = Unit

behind_if :
    (file : List ℕ) (place : ℕ) (b : Bool) (l m : Line) → (b ≡ true → Behind file place l) → Behind file place m
    → Behind file place (cond b l m)
behind_if file place true l m h g = h refl
behind_if file place false l m h g = g

behind_earlier : (file : List ℕ) (p q : ℕ) → p ≤ q → (l : Line) → Behind file q l → Behind file p l
behind_earlier file p q h (Some (v, behind)) g = (omega (arith, g.0), g.1)
behind_earlier file p q h None g = g

digits_behind : (left : ℕ) (file : List ℕ) (place value : ℕ) → Behind file place (digits_from left file place value)
unfolding digits_from is_digit
digits_behind zero file place value =
    behind_if file place (eqb (get_or file place 0) 10) (Some (value, place + 1)) None
    (λ e. (omega arith, omega (arith, inside file place (omega (arith, eqb-true (get_or file place 0) 10 e))))) tt
digits_behind (suc left) file place value =
    let next = digits_from left file (place + 1) (value * 10 + (get_or file place 0 - 48)) in
    behind_if file place (eqb (get_or file place 0) 10) (Some (value, place + 1)) (cond (is_digit (get_or file place 0)) next None)
    (λ e. (omega arith, omega (arith, inside file place (omega (arith, eqb-true (get_or file place 0) 10 e)))))
    (behind_if file place (is_digit (get_or file place 0)) next None
    (λ e. behind_earlier file place (place + 1) (omega arith) next
    (digits_behind left file (place + 1) (value * 10 + (get_or file place 0 - 48)))) tt)

value_behind : (file : List ℕ) (place : ℕ) → Behind file place (value_from file place)
unfolding value_from
value_behind file place =
    let rest = digits_from (cond (eqb (get_or file place 0) 48) 0 8) file (place + 1) (get_or file place 0 - 48) in
    behind_if file place (is_digit (get_or file place 0)) rest None
    (λ e. behind_earlier file place (place + 1) (omega arith) rest (digits_behind _ file (place + 1) _)) tt

pub line_behind : (file : List ℕ) (place key : ℕ) → Behind file place (line_at file place key)
unfolding line_at
line_behind file place key =
    let start = place + length (word key) + 1 in
    behind_if file place (stands file place (word key ++ (61 ∷ []))) (value_from file start) None
    (λ e. behind_earlier file place start (omega arith) (value_from file start) (value_behind file start)) tt

-- A number that is no key's has no word.
pub no_word : (key : ℕ) → 10 ≤ key → word key ≡ []
unfolding word words
no_word key h = get_or-eq_default words [] h

-- No word has more than ten bytes, and each line begins with a byte that isn't 0,
pub word_form : EachKey (λ key. (length (word key) ≤ 10) × (0 < get_or (word key ++ (61 ∷ [])) 0 0))
unfolding word words
word_form = record {
  plan = omega arith;
  processors = omega arith;
  tasks = omega arith;
  task = omega arith;
  period = omega arith;
  deadline = omega arith;
  steps = omega arith;
  processor = omega arith;
  priority = omega arith;
  time = omega arith;
  none = λ key h. rw (no_word key h) (omega arith);
}

-- so none begins where the file has ended.
pub line_past : (file : List ℕ) (place key : ℕ) → length file ≤ place → line_at file place key ≡ None
unfolding line_at stands
line_past file place key h =
    let head = word key ++ (61 ∷ []) in
    let zero_there : get_or file (place + 0) 0 ≡ 0 = get_or-eq_default file 0 (omega arith) in
    let fails : eqb (get_or file (place + 0) 0) (get_or head 0 0) ≡ false =
    ne_eqb _ _ (λ (q : get_or file (place + 0) 0 ≡ get_or head 0 0). omega (arith, (by_key word_form key).1)) in
    let no = all_fails (length head) (λ i. eqb (get_or file (place + i) 0) (get_or head i 0)) 0 (omega (arith, length-append (word key) (61 ∷ []))) fails in
    rw no

-- With so many digits left of nine, a value is below that power of ten, also behind one digit more.
pub worth_more :
    (left value digit : ℕ) → 0 < left → left ≤ 8 → value < 10 ^ (9 - left) → digit ≤ 9
    → value * 10 + digit < 10 ^ (9 - (left - 1))
worth_more left value digit p q h g =
    let n : 9 - (left - 1) ≡ suc (9 - left) = omega arith in
    rw (n, pow-suc) (omega arith)

pub worth_most : (left value : ℕ) → value < 10 ^ (9 - left) → value < 1000000000
worth_most left value h = omega (arith, pow-le-pow_right {n = 10} (omega arith) {i = 9 - left} {j = 9} (omega arith))

pub worth_first : (left value : ℕ) → left ≤ 8 → value < 10 → value < 10 ^ (9 - left)
worth_first left value h g = omega (arith, pow-le-pow_right {n = 10} (omega arith) {i = 1} {j = 9 - left} (omega arith))

-- A value by its first byte: behind a 0 there is no digit more, behind another digit at most eight, and any other byte is a fault.
module _ (file : List ℕ) (place : ℕ) where
  pub value_zero : get_or file place 0 ≡ 48 → value_from file place ≡ digits_from 0 file (place + 1) 0
  unfolding value_from is_digit
  value_zero e = rw e

  pub value_first :
      48 < get_or file place 0 → get_or file place 0 ≤ 57
      → value_from file place ≡ digits_from 8 file (place + 1) (get_or file place 0 - 48)
  unfolding value_from
  value_first l h =
      let not_zero : eqb (get_or file place 0) 48 ≡ false = ne_eqb _ 48 (λ (q : get_or file place 0 ≡ 48). omega arith) in
      simp (digit_yes (get_or file place 0) (omega arith) h, not_zero)

  pub value_other : is_digit (get_or file place 0) ≡ false → value_from file place ≡ None
  unfolding value_from
  value_other e = rw e

  pub value_past : length file ≤ place → value_from file place ≡ None
  value_past h =
      let e : get_or file place 0 ≡ 0 = get_or-eq_default file 0 h in
      value_other (digit_low _ (omega arith))

-- The word, appended to an empty list of ten places or more, is there whole.
pub word_holds : (key : ℕ) (l : List ℕ) {w : Written} → 10 ≤ length l → w ≡ appended (word key) l 0 → Holds (word key) (length l) w
word_holds key l size e = holds_more (word key) (holds_none l) e (omega (arith, (by_key word_form key).0))

pub holds_length : {text : List ℕ} {room : ℕ} {w : Written} → Holds text room w → length (take w.end w.list) ≡ w.end
holds_length h = ap length h.front ∙ sym h.end

-- None of the bytes is 0, as what is past a file's end reads.
abbrev pub written : List ℕ → Bool
written bytes = list_all (λ b. ltb 0 b) bytes

-- The line that begins with these bytes.
unfoldable pub line_headed : List ℕ → ℕ → List ℕ → Line
line_headed file place head = cond (stands file place head) (value_from file (place + length head)) None

-- With the word of a key and '=' it is the key's line.
pub line_headed_by_key : (file : List ℕ) (place key : ℕ) → line_headed file place (word key ++ (61 ∷ [])) ≡ line_at file place key
unfolding line_headed line_at
line_headed_by_key file place key =
    let there : place + length (word key ++ (61 ∷ [])) ≡ place + length (word key) + 1 =
    omega (arith, length-append (word key) (61 ∷ [])) in
    rw there

pub line_named :
    (file : List ℕ) (place : ℕ) {key k : ℕ} {l : Line} → key ≡ k → l ≡ line_headed file place (word k ++ (61 ∷ []))
    → l ≡ line_at file place key
line_named file place {key} {k} e f = f ∙ line_headed_by_key file place k ∙ ap (λ (n : ℕ). line_at file place n) (sym e)

-- The same of bytes that are that word and '='.
pub line_due :
    (file : List ℕ) (place key : ℕ) (head : List ℕ) → head ≡ word key ++ (61 ∷ []) → line_headed file place head ≡ line_at file place key
line_due file place key head e = ap (λ (h : List ℕ). line_headed file place h) e ∙ line_headed_by_key file place key
