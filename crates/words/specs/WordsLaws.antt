-- Laws of words.
use Rattle.std.specs.Prelude.{ℕ, suc, ◌+◌, ◌*◌, ◌-◌, ◌/◌, ◌%◌, ◌^◌, ◌≤◌, ◌<◌, ◌≡◌, ◌≢◌, cond, List, ◌++◌, length, get_or, take, drop, set}
use Rattle.std.proofs.Common.{sym, ◌∙◌, ap, arith, add-zero, div-one, mod-eq_of_lt, refl, append_assoc, drop-drop, length-append, length-drop, length-take-le, get_or-take, get_or-drop, get_or-append-add, ext_get_or, le-leb}
use Rattle.std.proofs.Math.Decide.{dec_le, dec_lt}
use Rattle.std.proofs.Math.ListN.{get_or-append}
use Rattle.std.proofs.lemmas.List.Edits.{sets-eq}
use Rattle.std.proofs.lemmas.Bool.{lt-leb}
use Rattle.std.specs.Int.{from_le_bytes, to_le_bytes, w64}
use Rattle.facts.specs.Sums.{sum}
use Rattle.facts.specs.SumsLaws.{sum_ext}
use Rattle.facts.specs.Filled.{tab}
use Rattle.facts.specs.FilledLaws.{length_tab, get_d_tab}
use Rattle.words.specs.Words.{Bytes, whole, word, bytes, with_word}
use Rattle.words.specs.DigitsLaws.{sum_of_digits, digits_fit, digit_of_sum}

-- A word outside the list is 0.
pub word_outside : (l : List ℕ) (k : ℕ) → length l < 8 * k + 8 → word l k ≡ 0
unfolding word
word_outside l k h = rw (lt-leb (8 * k + 8) (length l) h)

-- A word within the list, byte by byte, as straight-line code reads it.
pub word_reads :
    (l : List ℕ) (k : ℕ) → 8 * k + 8 ≤ length l
    → word l k
    ≡ get_or l (8 * k) 0 + get_or l (8 * k + 1) 0 * 256 + get_or l (8 * k + 2) 0 * 65536 + get_or l (8 * k + 3) 0 * 16777216
    + get_or l (8 * k + 4) 0 * 4294967296 + get_or l (8 * k + 5) 0 * 1099511627776
    + get_or l (8 * k + 6) 0 * 281474976710656 + get_or l (8 * k + 7) 0 * 72057594037927936
unfolding word sum
word_reads l k h = rw (le-leb (8 * k + 8) (length l) h, add-zero (8 * k)) (omega arith)

pub with_word_outside : (l : List ℕ) (k v : ℕ) → length l < 8 * k + 8 → with_word l k v ≡ l
unfolding with_word
with_word_outside l k v h = rw (lt-leb (8 * k + 8) (length l) h)

-- A word set within the list, byte by byte, as straight-line code stores it.
pub with_word_stores :
    (l : List ℕ) (k v : ℕ) → 8 * k + 8 ≤ length l
    → set (set (set (set (set (set (set (set l (8 * k) (v % 256)) (8 * k + 1) (v / 256 % 256))
    (8 * k + 2) (v / 65536 % 256)) (8 * k + 3) (v / 16777216 % 256)) (8 * k + 4) (v / 4294967296 % 256))
    (8 * k + 5) (v / 1099511627776 % 256)) (8 * k + 6) (v / 281474976710656 % 256)) (8 * k + 7) (v / 72057594037927936 % 256)
    ≡ with_word l k v
unfolding with_word bytes tab
with_word_stores l k v h =
    let e₁ : 8 * k + 1 ≡ suc (8 * k) = omega arith in
    let e₂ : 8 * k + 2 ≡ suc (suc (8 * k)) = omega arith in
    let e₃ : 8 * k + 3 ≡ suc (suc (suc (8 * k))) = omega arith in
    let e₄ : 8 * k + 4 ≡ suc (suc (suc (suc (8 * k)))) = omega arith in
    let e₅ : 8 * k + 5 ≡ suc (suc (suc (suc (suc (8 * k))))) = omega arith in
    let e₆ : 8 * k + 6 ≡ suc (suc (suc (suc (suc (suc (8 * k)))))) = omega arith in
    let e₇ : 8 * k + 7 ≡ suc (suc (suc (suc (suc (suc (suc (8 * k))))))) = omega arith in
    rw (le-leb (8 * k + 8) (length l) h, div-one v, e₁, e₂, e₃, e₄, e₅, e₆, e₇) (sets-eq _ l (8 * k) h)

-- A word within the list is the number that std reads of its eight bytes,
pub word_of_le : (l : List ℕ) (k : ℕ) → 8 * k + 8 ≤ length l → word l k ≡ from_le_bytes w64 (take 8 (drop (8 * k) l))
word_of_le l k h =
    let first : get_or (take 8 (drop (8 * k) l)) 0 0 ≡ get_or l (8 * k) 0 = rw (add-zero (8 * k)) at (at 0 (omega arith)) in
    rw (word_reads l k h)
    (omega (
      arith,
      first,
      at 1 (omega arith),
      at 2 (omega arith),
      at 3 (omega arith),
      at 4 (omega arith),
      at 5 (omega arith),
      at 6 (omega arith),
      at 7 (omega arith),
    ))
  where
    at : (i : ℕ) → i < 8 → get_or (take 8 (drop (8 * k) l)) i 0 ≡ get_or l (8 * k + i) 0
    at i lt = get_or-take 8 (drop (8 * k) l) i 0 lt ∙ get_or-drop (8 * k) l i 0

-- and a word set within the list is the eight bytes that std writes of it.
pub with_word_of_le :
    (l : List ℕ) (k v : ℕ) → 8 * k + 8 ≤ length l
    → with_word l k v ≡ take (8 * k) l ++ (to_le_bytes w64 v ++ drop 8 (drop (8 * k) l))
unfolding with_word bytes tab
with_word_of_le l k v h =
    rw (le-leb (8 * k + 8) (length l) h, div-one v, append_assoc, drop-drop 8 (8 * k) l) refl

-- A list b of n entries put in the place of those of l from at on.
module _ (l b : List ℕ) (at n : ℕ) (size : length b ≡ n) (fits : at + n ≤ length l) where
  length_front : length (take at l ++ b) ≡ at + n
  length_front = omega (arith, length-append (take at l) b, length-take-le at l (omega arith))

  length_placed : length (take at l ++ b ++ drop (at + n) l) ≡ length l
  length_placed = omega (arith, length-append (take at l ++ b) (drop (at + n) l), length_front, length-drop (at + n) l)

  placed_in : (i : ℕ) → i < n → get_or (take at l ++ b ++ drop (at + n) l) (at + i) 0 ≡ get_or b i 0
  placed_in i h =
      get_or-append (take at l ++ b) (drop (at + n) l) 0 (at + i) (omega (arith, length_front))
      ∙ ap (λ (m : ℕ). get_or (take at l ++ b) (m + i) 0) (sym (length-take-le at l (omega arith)))
      ∙ get_or-append-add (take at l) b i 0

  placed_below : (j : ℕ) → j < at → get_or (take at l ++ b ++ drop (at + n) l) j 0 ≡ get_or l j 0
  placed_below j h =
      get_or-append (take at l ++ b) (drop (at + n) l) 0 j (omega (arith, length_front))
      ∙ get_or-append (take at l) b 0 j (omega (arith, length-take-le at l (omega arith)))
      ∙ get_or-take at l j 0 h

  placed_above : (j : ℕ) → at + n ≤ j → get_or (take at l ++ b ++ drop (at + n) l) j 0 ≡ get_or l j 0
  placed_above j h =
      let e : length (take at l ++ b) + (j - (at + n)) ≡ j = omega (arith, length_front) in
      let g : at + n + (j - (at + n)) ≡ j = omega arith in
      ap (λ (m : ℕ). get_or (take at l ++ b ++ drop (at + n) l) m 0) (sym e)
      ∙ get_or-append-add (take at l ++ b) (drop (at + n) l) (j - (at + n)) 0
      ∙ get_or-drop (at + n) l (j - (at + n)) 0 ∙ ap (λ (m : ℕ). get_or l m 0) g

length_bytes : (v : ℕ) → length (bytes v) ≡ 8
unfolding bytes
length_bytes v = length_tab (λ i. v / 256 ^ i % 256) 8

get_d_bytes : (v i : ℕ) → i < 8 → get_or (bytes v) i 0 ≡ v / 256 ^ i % 256
unfolding bytes
get_d_bytes v i h = get_d_tab (λ i. v / 256 ^ i % 256) 8 i 0 h

with_word_within : (l : List ℕ) (k v : ℕ) → 8 * k + 8 ≤ length l → with_word l k v ≡ take (8 * k) l ++ bytes v ++ drop (8 * k + 8) l
unfolding with_word
with_word_within l k v h = rw (le-leb (8 * k + 8) (length l) h)

word_within : (l : List ℕ) (k : ℕ) → 8 * k + 8 ≤ length l → word l k ≡ sum 8 (λ i. get_or l (8 * k + i) 0 * 256 ^ i)
unfolding word
word_within l k h = rw (le-leb (8 * k + 8) (length l) h)

pub length_with_word : (l : List ℕ) (k v : ℕ) → length (with_word l k v) ≡ length l
length_with_word l k v = go (dec_le (8 * k + 8) (length l))
  where
    go : Dec (8 * k + 8 ≤ length l) → length (with_word l k v) ≡ length l
    go (yes h) = rw (with_word_within l k v h) (length_placed l (bytes v) (8 * k) 8 (length_bytes v) h)
    go (no h) = rw (with_word_outside l k v (omega arith))

-- What a byte of the list is once word k is set: as it was, or the byte of v that stands there.
pub data ByteSet (l : List ℕ) (k v j : ℕ) : Type 0 where
  kept : get_or (with_word l k v) j 0 ≡ get_or l j 0 → ByteSet l k v j
  new :
      (i : ℕ) → i < 8 → j ≡ 8 * k + i → 8 * k + 8 ≤ length l → get_or (with_word l k v) j 0 ≡ v / 256 ^ i % 256
      → ByteSet l k v j

pub byte_with_word : (l : List ℕ) (k v j : ℕ) → ByteSet l k v j
byte_with_word l k v j = go (dec_le (8 * k + 8) (length l)) (dec_lt j (8 * k)) (dec_le (8 * k + 8) j)
  where
    go : Dec (8 * k + 8 ≤ length l) → Dec (j < 8 * k) → Dec (8 * k + 8 ≤ j) → ByteSet l k v j
    go (no h) below above = kept (rw (with_word_outside l k v (omega arith)))
    go (yes h) (yes below) above =
        kept (rw (with_word_within l k v h) (placed_below l (bytes v) (8 * k) 8 (length_bytes v) h j below))
    go (yes h) (no below) (yes above) =
        kept (rw (with_word_within l k v h) (placed_above l (bytes v) (8 * k) 8 (length_bytes v) h j above))
    go (yes h) (no below) (no above) =
        let e : j ≡ 8 * k + (j - 8 * k) = omega arith in
        new (j - 8 * k) (omega arith) e h
        (ap (λ (m : ℕ). get_or (with_word l k v) m 0) e
        ∙ rw (with_word_within l k v h) (placed_in l (bytes v) (8 * k) 8 (length_bytes v) h (j - 8 * k) (omega arith))
        ∙ get_d_bytes v (j - 8 * k) (omega arith))

-- The word that was set is read back,
pub word_with_word_same : (l : List ℕ) (k v : ℕ) → 8 * k + 8 ≤ length l → v < 2 ^ 64 → word (with_word l k v) k ≡ v
word_with_word_same l k v h fits =
    word_within (with_word l k v) k (omega (arith, length_with_word l k v))
    ∙ sum_ext 8 {f = λ i. get_or (with_word l k v) (8 * k + i) 0 * 256 ^ i} {g = λ i. v / 256 ^ i % 256 * 256 ^ i}
    (λ i lt. ap (λ (b : ℕ). b * 256 ^ i) (byte i lt))
    ∙ sum_of_digits 8 v ∙ mod-eq_of_lt fits
  where
    byte : (i : ℕ) → i < 8 → get_or (with_word l k v) (8 * k + i) 0 ≡ v / 256 ^ i % 256
    byte i lt =
        rw (with_word_within l k v h) (placed_in l (bytes v) (8 * k) 8 (length_bytes v) h i lt) ∙ get_d_bytes v i lt

-- and every other word stays.
pub word_with_word_other : (l : List ℕ) (k j v : ℕ) → k ≢ j → word (with_word l k v) j ≡ word l j
unfolding word
word_with_word_other l k j v ne =
    rw (length_with_word l k v)
    (ap (λ (s : ℕ). cond (whole l j) s 0)
    (sum_ext 8 {f = λ i. get_or (with_word l k v) (8 * j + i) 0 * 256 ^ i} {g = λ i. get_or l (8 * j + i) 0 * 256 ^ i}
    (λ i lt. ap (λ (b : ℕ). b * 256 ^ i) (byte i lt (byte_with_word l k v (8 * j + i))))))
  where
    byte : (i : ℕ) → i < 8 → ByteSet l k v (8 * j + i) → get_or (with_word l k v) (8 * j + i) 0 ≡ get_or l (8 * j + i) 0
    byte i lt (kept e) = e
    byte i lt (new m lm e h s) = absurd (ne (omega arith))

-- A list of bytes stays one.
pub bytes_with_word : (l : List ℕ) (k v : ℕ) → Bytes l → Bytes (with_word l k v)
bytes_with_word l k v small j = go (byte_with_word l k v j)
  where
    go : ByteSet l k v j → get_or (with_word l k v) j 0 < 256
    go (kept e) = omega (arith, small j)
    go (new i lt e h s) = omega arith

-- A word of bytes fits 64 bits, and its bytes are its digits.
pub word_fits : (l : List ℕ) (k : ℕ) → Bytes l → word l k < 2 ^ 64
word_fits l k small = go (dec_le (8 * k + 8) (length l))
  where
    go : Dec (8 * k + 8 ≤ length l) → word l k < 2 ^ 64
    go (yes h) = rw (word_within l k h) (digits_fit (λ i. get_or l (8 * k + i) 0) (λ i. small (8 * k + i)) 8)
    go (no h) = rw (word_outside l k (omega arith)) (omega arith)

pub byte_word :
    (l : List ℕ) (k i : ℕ) → Bytes l → 8 * k + 8 ≤ length l → i < 8 → word l k / 256 ^ i % 256 ≡ get_or l (8 * k + i) 0
byte_word l k i small h lt =
    rw (word_within l k h) (digit_of_sum (λ i. get_or l (8 * k + i) 0) (λ i. small (8 * k + i)) 8 i lt)

-- A word written back changes nothing.
pub with_word_word : (l : List ℕ) (k : ℕ) → Bytes l → with_word l k (word l k) ≡ l
with_word_word l k small =
    ext_get_or 0 (with_word l k (word l k)) l (length_with_word l k (word l k)) (λ j lt. go j (byte_with_word l k (word l k) j))
  where
    go : (j : ℕ) → ByteSet l k (word l k) j → get_or (with_word l k (word l k)) j 0 ≡ get_or l j 0
    go j (kept e) = e
    go j (new i lt e h s) = s ∙ byte_word l k i small h lt ∙ ap (λ (m : ℕ). get_or l m 0) (sym e)

-- Two lists of as many whole words of bytes that agree in each word are equal.
pub words_ext :
    (l m : List ℕ) (n : ℕ) → length l ≡ 8 * n → length m ≡ 8 * n → Bytes l → Bytes m
    → ((k : ℕ) → k < n → word l k ≡ word m k) → l ≡ m
words_ext l m n a b small small' same = ext_get_or 0 l m (a ∙ sym b) (λ j lt. byte j (omega arith))
  where
    byte : (j : ℕ) → j < 8 * n → get_or l j 0 ≡ get_or m j 0
    byte j lt =
        let e : j ≡ 8 * (j / 8) + j % 8 = omega arith in
        ap (λ (i : ℕ). get_or l i 0) e
        ∙ sym (byte_word l (j / 8) (j % 8) small (omega arith) (omega arith))
        ∙ ap (λ (w : ℕ). w / 256 ^ (j % 8) % 256) (same (j / 8) (omega arith))
        ∙ byte_word m (j / 8) (j % 8) small' (omega arith) (omega arith)
        ∙ ap (λ (i : ℕ). get_or m i 0) (sym e)
