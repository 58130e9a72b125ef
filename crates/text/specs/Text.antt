-- Text as bytes, and how it is appended to a list.
use Prim.Native.Char.{code}
use Rattle.std.specs.Prelude.{ℕ, zero, suc, ◌+◌, ◌/◌, ◌%◌, cond, List, [], ◌∷◌, ◌++◌, ltb, length, set}
use Prim.Native.String.{String, [] as end, ◌∷◌ as ◌then◌}

-- The bytes of a text, which has only characters of one byte.
abbrev pub bytes_of : String → List ℕ
bytes_of end = []
bytes_of (c then s) = code c ∷ bytes_of s

-- The decimal digits of n as bytes, the most significant first; at most k of them, the last ones.
unfoldable pub digits : ℕ → ℕ → List ℕ
digits zero n = []
digits (suc k) n = cond (ltb n 10) ((48 + n) ∷ []) (digits k (n / 10) ++ ((48 + n % 10) ∷ []))

-- The number n as text: 20 digits hold every number of 64 bits.
unfoldable pub decimal : ℕ → List ℕ
decimal n = digits 20 n

-- One line of a file or a report: the key, '=', the value and LF (document 01, "The plan on paper").
unfoldable pub line : List ℕ → ℕ → List ℕ
line key v = key ++ (61 ∷ decimal v) ++ (10 ∷ [])

-- The same with a minus sign before the value.
unfoldable pub minus_line : List ℕ → ℕ → List ℕ
minus_line key v = key ++ (61 ∷ 45 ∷ decimal v) ++ (10 ∷ [])

-- A list and the place up to which it is written.
pub record Written : Type 0 where
  pub list : List ℕ
  pub end : ℕ

-- The bytes appended to the list from the place `at` on, as far as it has room.
unfoldable pub appended : List ℕ → List ℕ → ℕ → Written
appended [] l at = record { list = l; end = at }
appended (b ∷ bs) l at = cond (ltb at (length l)) (appended bs (set l at b) (at + 1)) (record { list = l; end = at })
