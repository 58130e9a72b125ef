-- Laws of fields: words at equal steps.
use Prim.Native.Nat.{ℕ, zero, suc, ◌+◌, ◌*◌, ◌-◌, ◌/◌, ◌^◌, ◌≤◌, ◌<◌}
use Rattle.std.specs.Prelude.{◌≡◌, ◌≢◌, Bool, true, false, List, leb, length}
use Rattle.std.proofs.Math.Path.{refl}
use Rattle.std.proofs.Common.{sym, ◌∙◌, ap, add-one, mul-le-mul_left, le-div_iff_mul-le, div-lt_iff_lt-mul, le-leb, leb-true}
use native.Mathlib.Omega.{arith}
use Rattle.std.proofs.Math.Decide.{dec_le, dec_lt}
use Rattle.std.proofs.Math.ListN.{get_or}
use Rattle.std.proofs.lemmas.Bool.{lt-leb}
use Rattle.facts.specs.Tests.{all}
use Rattle.facts.specs.TestsLaws.{all_at, all_of, all_fails, and_true, and_false, and_left, and_right}
use Rattle.facts.specs.Filled.{filled}
use Rattle.facts.specs.FilledLaws.{filled_ext, length_filled, get_d_filled, get_d_rest}
use Rattle.words.specs.Words.{Bytes, whole, word, with_word, field_within, field_fits, gathered, with_words, with_field}
use Rattle.words.specs.WordsLaws.{length_with_word, word_with_word_same, word_with_word_other, bytes_with_word, with_word_word}

-- A field within the list has each of its words there, and the other way round.
pub field_at :
    (l : List ℕ) (from step count : ℕ) → field_within l from step count ≡ true
    → (i : ℕ) → i < count → 8 * (from + step * i) + 8 ≤ length l
unfolding field_within
field_at l from step count h i lt =
    leb-true (8 * (from + step * i) + 8) (length l) (all_at count (λ i. whole l (from + step * i)) h i lt)

pub field_of :
    (l : List ℕ) (from step count : ℕ) → ((i : ℕ) → i < count → 8 * (from + step * i) + 8 ≤ length l)
    → field_within l from step count ≡ true
unfolding field_within
field_of l from step count h =
    all_of count (λ i. whole l (from + step * i)) (λ i lt. le-leb (8 * (from + step * i) + 8) (length l) (h i lt))

-- A field of no words stands anywhere.
pub field_none : (l : List ℕ) (from step : ℕ) → field_within l from step 0 ≡ true
field_none l from step = field_of l from step 0 (λ i lt. absurd (omega arith))

-- One word past the list's end puts the field outside.
pub field_past :
    (l : List ℕ) (from step count i : ℕ) → i < count → length l < 8 * (from + step * i) + 8
    → field_within l from step count ≡ false
unfolding field_within
field_past l from step count i lt h =
    all_fails count (λ i. whole l (from + step * i)) i lt (lt-leb (8 * (from + step * i) + 8) (length l) h)

-- The last word within the list puts the whole field there.
pub field_last :
    (l : List ℕ) (from step count : ℕ) → 8 * (from + step * (count - 1)) + 8 ≤ length l → field_within l from step count ≡ true
field_last l from step count h =
    field_of l from step count (λ i lt. omega (arith, mul-le-mul_left {m = i} {n = count - 1} step (omega arith)))

-- The last word's place by a quotient of the words that are left behind the first.
pub field_quotient :
    (l : List ℕ) (from step count : ℕ) → 1 < count → from < length l / 8
    → leb step ((length l / 8 - 1 - from) / (count - 1)) ≡ field_within l from step count
field_quotient l from step count many first = go (dec_le (step * (count - 1)) (length l / 8 - 1 - from))
  where
    go : Dec (step * (count - 1) ≤ length l / 8 - 1 - from)
        → leb step ((length l / 8 - 1 - from) / (count - 1)) ≡ field_within l from step count
    go (yes h) =
        le-leb step ((length l / 8 - 1 - from) / (count - 1))
        ((le-div_iff_mul-le {k = count - 1} {x = step} {y = length l / 8 - 1 - from} (omega arith)).1 h)
        ∙ sym (field_last l from step count (omega arith))
    go (no h) =
        lt-leb step ((length l / 8 - 1 - from) / (count - 1))
        ((div-lt_iff_lt-mul {k = count - 1} {x = length l / 8 - 1 - from} {y = step} (omega arith)).1 (omega arith))
        ∙ sym (field_past l from step count (count - 1) (omega arith) (omega arith))

-- A field fits where it stands within the list and the list of numbers has room; one that fails is enough to refuse.
pub fits_yes :
    (l : List ℕ) (from step count : ℕ) (numbers : List ℕ) → field_within l from step count ≡ true → count ≤ length numbers
    → field_fits l from step count numbers ≡ true
unfolding field_fits
fits_yes l from step count numbers h room = and_true h (le-leb count (length numbers) room)

pub fits_outside :
    (l : List ℕ) (from step count : ℕ) (numbers : List ℕ) → field_within l from step count ≡ false
    → field_fits l from step count numbers ≡ false
unfolding field_fits
fits_outside l from step count numbers h = rw h

pub fits_short :
    (l : List ℕ) (from step count : ℕ) (numbers : List ℕ) → length numbers < count → field_fits l from step count numbers ≡ false
unfolding field_fits
fits_short l from step count numbers h = rw (lt-leb count (length numbers) h) (and_false (field_within l from step count))

pub gathered_yes :
    (l : List ℕ) (from step count : ℕ) (out : List ℕ) → field_fits l from step count out ≡ true
    → gathered l from step count out ≡ filled (λ i. word l (from + step * i)) count out
unfolding gathered
gathered_yes l from step count out h = rw h

pub gathered_no :
    (l : List ℕ) (from step count : ℕ) (out : List ℕ) → field_fits l from step count out ≡ false
    → gathered l from step count out ≡ out
unfolding gathered
gathered_no l from step count out h = rw h

pub with_field_yes :
    (l : List ℕ) (from step count : ℕ) (values : List ℕ) → field_fits l from step count values ≡ true
    → with_field l from step count values ≡ with_words l from step count values
unfolding with_field
with_field_yes l from step count values h = rw h

pub with_field_no :
    (l : List ℕ) (from step count : ℕ) (values : List ℕ) → field_fits l from step count values ≡ false
    → with_field l from step count values ≡ l
unfolding with_field
with_field_no l from step count values h = rw h

-- The same, of each of the tests on the way.
pub gathered_short :
    (l : List ℕ) (from step count : ℕ) (out : List ℕ) → length out < count → out ≡ gathered l from step count out
gathered_short l from step count out h = sym (gathered_no l from step count out (fits_short l from step count out h))

pub gathered_outside :
    (l : List ℕ) (from step count : ℕ) (out : List ℕ) → field_within l from step count ≡ false → out ≡ gathered l from step count out
gathered_outside l from step count out h = sym (gathered_no l from step count out (fits_outside l from step count out h))

pub gathered_whole :
    (l : List ℕ) (from step count : ℕ) (out : List ℕ) → field_within l from step count ≡ true → count ≤ length out
    → filled (λ i. word l (from + step * i)) count out ≡ gathered l from step count out
gathered_whole l from step count out h room =
    sym (gathered_yes l from step count out (fits_yes l from step count out h room))

pub with_field_short :
    (l : List ℕ) (from step count : ℕ) (values : List ℕ) → length values < count → l ≡ with_field l from step count values
with_field_short l from step count values h =
    sym (with_field_no l from step count values (fits_short l from step count values h))

pub with_field_outside :
    (l : List ℕ) (from step count : ℕ) (values : List ℕ) → field_within l from step count ≡ false → l ≡ with_field l from step count values
with_field_outside l from step count values h =
    sym (with_field_no l from step count values (fits_outside l from step count values h))

pub with_field_whole :
    (l : List ℕ) (from step count : ℕ) (values : List ℕ) → field_within l from step count ≡ true → count ≤ length values
    → with_words l from step count values ≡ with_field l from step count values
with_field_whole l from step count values h room =
    sym (with_field_yes l from step count values (fits_yes l from step count values h room))

-- No word is set yet, and one more word is set.
pub with_words_none : (l : List ℕ) (from step : ℕ) (values : List ℕ) → l ≡ with_words l from step 0 values
unfolding with_words
with_words_none l from step values = refl

pub with_words_more :
    (l : List ℕ) (from step n : ℕ) (values : List ℕ)
    → with_word (with_words l from step n values) (from + step * n) (get_or values n 0) ≡ with_words l from step (n + 1) values
unfolding with_words
with_words_more l from step n values = rw (add-one n)

-- What fits stands within the list, and has room.
pub fits_within :
    (l : List ℕ) (from step count : ℕ) (numbers : List ℕ) → field_fits l from step count numbers ≡ true
    → field_within l from step count ≡ true
unfolding field_fits
fits_within l from step count numbers h = and_left (field_within l from step count) (leb count (length numbers)) h

pub fits_room :
    (l : List ℕ) (from step count : ℕ) (numbers : List ℕ) → field_fits l from step count numbers ≡ true → count ≤ length numbers
unfolding field_fits
fits_room l from step count numbers h =
    leb-true count (length numbers) (and_right (field_within l from step count) (leb count (length numbers)) h)

-- Whether a field stands within a list is a matter of the list's length alone.
pub within_length :
    (l m : List ℕ) (from step count : ℕ) → length l ≡ length m → field_within l from step count ≡ field_within m from step count
unfolding field_within
within_length l m from step count e = ap (λ (n : ℕ). all count (λ i. leb (8 * (from + step * i) + 8) n)) e

-- Of two places of a field the later has the greater word.
step_apart : (from step i j : ℕ) → 0 < step → i < j → from + step * i < from + step * j
step_apart from step i j pos lt = omega (arith, mul-le-mul_left {m = suc i} {n = j} step lt)

module _ (l : List ℕ) (from step : ℕ) (values : List ℕ) where
  pub length_with_words : (n : ℕ) → length (with_words l from step n values) ≡ length l
  unfolding with_words
  length_with_words zero = refl
  length_with_words (suc n) =
      length_with_word (with_words l from step n values) (from + step * n) (get_or values n 0) ∙ length_with_words n

  pub bytes_with_words : (n : ℕ) → Bytes l → Bytes (with_words l from step n values)
  unfolding with_words
  bytes_with_words zero small = small
  bytes_with_words (suc n) small =
      bytes_with_word (with_words l from step n values) (from + step * n) (get_or values n 0) (bytes_with_words n small)

  -- A word that is none of the field's stays.
  pub word_with_words_other :
      (n j : ℕ) → ((i : ℕ) → i < n → from + step * i ≢ j) → word (with_words l from step n values) j ≡ word l j
  unfolding with_words
  word_with_words_other zero j ne = refl
  word_with_words_other (suc n) j ne =
      word_with_word_other (with_words l from step n values) (from + step * n) j (get_or values n 0) (ne n (omega arith))
      ∙ word_with_words_other n j (λ i lt. ne i (omega arith))

  -- The field's words are the values.
  pub word_with_words_at :
      (n i : ℕ) → 0 < step → ((i : ℕ) → i < n → 8 * (from + step * i) + 8 ≤ length l)
      → i < n → get_or values i 0 < 2 ^ 64 → word (with_words l from step n values) (from + step * i) ≡ get_or values i 0
  unfolding with_words
  word_with_words_at zero i pos inside lt fits = absurd (omega arith)
  word_with_words_at (suc n) i pos inside lt fits =
      go (dec_lt i n) (λ l. word_with_words_at n i pos (λ i b. inside i (omega arith)) l fits)
    where
      go :
          Dec (i < n) → (i < n → word (with_words l from step n values) (from + step * i) ≡ get_or values i 0)
          → word (with_word (with_words l from step n values) (from + step * n) (get_or values n 0)) (from + step * i) ≡ get_or values i 0
      go (yes b) ih =
          word_with_word_other (with_words l from step n values) (from + step * n) (from + step * i) (get_or values n 0)
          (λ e. omega (arith, step_apart from step i n pos b)) ∙ ih b
      go (no b) ih =
          let e : i ≡ n = omega arith in
          let fits' : get_or values n 0 < 2 ^ 64 = rw e at fits in
          rw e
          (word_with_word_same (with_words l from step n values) (from + step * n) (get_or values n 0)
          (omega (arith, inside n (omega arith), length_with_words n)) fits')

  -- The list's own words written back change nothing.
  pub with_words_back :
      (n : ℕ) → Bytes l → ((i : ℕ) → i < n → get_or values i 0 ≡ word l (from + step * i)) → with_words l from step n values ≡ l
  unfolding with_words
  with_words_back zero small same = refl
  with_words_back (suc n) small same =
      let ih : with_words l from step n values ≡ l = with_words_back n small (λ i lt. same i (omega arith)) in
      rw (ih, same n (omega arith)) (with_word_word l (from + step * n) small)

-- The same laws of the whole field.
module _ (l : List ℕ) (from step count : ℕ) (values : List ℕ) where
  -- What holds of the list as it is and of the list with the field set holds of the outcome.
  either_field :
      (P : List ℕ → Type 0) → P l → (field_fits l from step count values ≡ true → P (with_words l from step count values))
      → P (with_field l from step count values)
  either_field P left done = go (field_fits l from step count values) refl
    where
      go : (b : Bool) → field_fits l from step count values ≡ b → P (with_field l from step count values)
      go true e = rw (with_field_yes l from step count values e) (done e)
      go false e = rw (with_field_no l from step count values e) left

  pub length_with_field : length (with_field l from step count values) ≡ length l
  length_with_field = either_field (λ m. length m ≡ length l) refl (λ e. length_with_words l from step values count)

  pub bytes_with_field : Bytes l → Bytes (with_field l from step count values)
  bytes_with_field small = either_field Bytes small (λ e. bytes_with_words l from step values count small)

  pub word_with_field_other :
      (j : ℕ) → ((i : ℕ) → i < count → from + step * i ≢ j) → word (with_field l from step count values) j ≡ word l j
  word_with_field_other j ne =
      either_field (λ m. word m j ≡ word l j) refl (λ e. word_with_words_other l from step values count j ne)

  pub word_with_field_at :
      field_fits l from step count values ≡ true → 0 < step
      → (i : ℕ) → i < count → get_or values i 0 < 2 ^ 64 → word (with_field l from step count values) (from + step * i) ≡ get_or values i 0
  word_with_field_at fit pos i lt small =
      rw (with_field_yes l from step count values fit)
      (word_with_words_at l from step values count i pos
      (field_at l from step count (fits_within l from step count values fit)) lt small)

module _ (l : List ℕ) (from step count : ℕ) (out : List ℕ) where
  either_gathered :
      (P : List ℕ → Type 0) → P out
      → (field_fits l from step count out ≡ true → P (filled (λ i. word l (from + step * i)) count out))
      → P (gathered l from step count out)
  either_gathered P left done = go (field_fits l from step count out) refl
    where
      go : (b : Bool) → field_fits l from step count out ≡ b → P (gathered l from step count out)
      go true e = rw (gathered_yes l from step count out e) (done e)
      go false e = rw (gathered_no l from step count out e) left

  pub length_gathered : length (gathered l from step count out) ≡ length out
  length_gathered =
      either_gathered (λ m. length m ≡ length out) refl
      (λ e. length_filled (λ i. word l (from + step * i)) count out (fits_room l from step count out e))

  -- The first count entries are the field's words, and the others stay.
  pub get_d_gathered :
      field_fits l from step count out ≡ true
      → (i : ℕ) → i < count → get_or (gathered l from step count out) i 0 ≡ word l (from + step * i)
  get_d_gathered fit i lt =
      rw (gathered_yes l from step count out fit) (get_d_filled (λ i. word l (from + step * i)) count i 0 out lt)

  pub get_d_gathered_rest : (i : ℕ) → count ≤ i → get_or (gathered l from step count out) i 0 ≡ get_or out i 0
  get_d_gathered_rest i past =
      either_gathered (λ m. get_or m i 0 ≡ get_or out i 0) refl (λ e. get_d_rest (λ i. word l (from + step * i)) count i 0 out past)

-- What was written to a field is read from it,
pub gathered_with_field :
    (l : List ℕ) (from step count : ℕ) (values out : List ℕ) → field_fits l from step count values ≡ true
    → count ≤ length out → 0 < step → ((i : ℕ) → i < count → get_or values i 0 < 2 ^ 64)
    → gathered (with_field l from step count values) from step count out ≡ filled (λ i. get_or values i 0) count out
gathered_with_field l from step count values out fit room pos small =
    gathered_yes (with_field l from step count values) from step count out
    (fits_yes (with_field l from step count values) from step count out
    (within_length (with_field l from step count values) l from step count (length_with_field l from step count values)
    ∙ fits_within l from step count values fit) room)
    ∙ filled_ext (λ i. word (with_field l from step count values) (from + step * i)) (λ i. get_or values i 0) count out
    (λ i lt. word_with_field_at l from step count values fit pos i lt (small i lt))

-- and what was read from a field, written back, changes nothing.
pub with_field_gathered :
    (l : List ℕ) (from step count : ℕ) (out : List ℕ) → field_fits l from step count out ≡ true → Bytes l
    → with_field l from step count (gathered l from step count out) ≡ l
with_field_gathered l from step count out fit small =
    either_field l from step count (gathered l from step count out) (λ m. m ≡ l) refl
    (λ e. with_words_back l from step (gathered l from step count out) count small
    (λ i lt. get_d_gathered l from step count out fit i lt))
