-- Unsigned 64-bit numbers in lists of bytes: words of eight bytes, the least significant first.
use Rattle.std.specs.Prelude.{ℕ, zero, suc, ◌+◌, ◌*◌, ◌/◌, ◌%◌, ◌^◌, ◌<◌, Bool, cond, ◌&&◌, List, ◌++◌, leb, length, get_or, take, drop}
use Rattle.facts.specs.Sums.{sum}
use Rattle.facts.specs.Tests.{all}
use Rattle.facts.specs.Filled.{tab, filled}

-- Each entry of the list is a byte.
abbrev pub Bytes : List ℕ → Type 0
Bytes l = (i : ℕ) → get_or l i 0 < 256

-- Word k, the bytes 8k to 8k + 7, stands whole within the list l.
abbrev pub whole : List ℕ → ℕ → Bool
whole l k = leb (8 * k + 8) (length l)

-- Word k of the list l: its byte 8k + i counts 256 ^ i; 0 where the word does not stand whole within l.
unfoldable pub word : List ℕ → ℕ → ℕ
word l k = cond (whole l k) (sum 8 (λ i. get_or l (8 * k + i) 0 * 256 ^ i)) 0

-- The eight bytes of the number v, the least significant first.
unfoldable pub bytes : ℕ → List ℕ
bytes v = tab (λ i. v / 256 ^ i % 256) 8

-- The list l with word k set to v; l as it is where the word does not stand whole within it.
unfoldable pub with_word : List ℕ → ℕ → ℕ → List ℕ
with_word l k v = cond (whole l k) (take (8 * k) l ++ bytes v ++ drop (8 * k + 8) l) l

-- The field of count words at from, from + step, from + 2 step, .. stands whole within the list l.
unfoldable pub field_within : List ℕ → ℕ → ℕ → ℕ → Bool
field_within l from step count = all count (λ i. whole l (from + step * i))

-- The field stands within the list l, and the list of numbers has room for its count words.
unfoldable pub field_fits : List ℕ → ℕ → ℕ → ℕ → List ℕ → Bool
field_fits l from step count numbers = field_within l from step count && leb count (length numbers)

-- The list out with its first count entries the field's words, where the field fits; else out as it is.
unfoldable pub gathered : List ℕ → ℕ → ℕ → ℕ → List ℕ → List ℕ
gathered l from step count out =
    cond (field_fits l from step count out) (filled (λ i. word l (from + step * i)) count out) out

-- The list l with the words from, from + step, .., n of them, set in turn to the first entries of values.
unfoldable pub with_words : List ℕ → ℕ → ℕ → ℕ → List ℕ → List ℕ
with_words l from step zero values = l
with_words l from step (suc n) values = with_word (with_words l from step n values) (from + step * n) (get_or values n 0)

-- The list l with the field's words set to the first count entries of values, where the field fits; else l as it is.
unfoldable pub with_field : List ℕ → ℕ → ℕ → ℕ → List ℕ → List ℕ
with_field l from step count values = cond (field_fits l from step count values) (with_words l from step count values) l
