-- What stands in a line of a file (document 01, "The plan on paper": the form of a value).
use Rattle.std.specs.Prelude.{ℕ, zero, suc, ◌+◌, ◌*◌, ◌-◌, Bool, cond, ◌&&◌, List, [], ◌∷◌, ◌++◌, leb, eqb, length, get_or, Some, None, Option}
use Rattle.facts.specs.Tests.{all}
use Rattle.lines.specs.Words.{word}

-- A line: its value and where the next line starts, or a fault of form.
abbrev pub Line : Type 0
Line = Option (ℕ × ℕ)

-- A decimal digit.
unfoldable pub is_digit : ℕ → Bool
is_digit b = leb 48 b && leb b 57

-- The word stands in the file from the place on. What is past the file's end reads as 0, which no word has.
unfoldable pub stands : List ℕ → ℕ → List ℕ → Bool
stands file place w = all (length w) (λ i. eqb (get_or file (place + i) 0) (get_or w i 0))

-- The rest of a value: at most so many digits more, and an LF; the value so far comes first. 0, past the end, is neither.
unfoldable pub digits_from : ℕ → List ℕ → ℕ → ℕ → Line
digits_from zero file place value = cond (eqb (get_or file place 0) 10) (Some (value, place + 1)) None
digits_from (suc left) file place value =
    cond (eqb (get_or file place 0) 10) (Some (value, place + 1))
    (cond (is_digit (get_or file place 0)) (digits_from left file (place + 1) (value * 10 + (get_or file place 0 - 48))) None)

-- A value is 1 to 9 digits with no leading zero: behind a first digit 0 none may stand, behind another at most eight.
unfoldable pub value_from : List ℕ → ℕ → Line
value_from file place =
    cond (is_digit (get_or file place 0))
    (digits_from (cond (eqb (get_or file place 0) 48) 0 8) file (place + 1) (get_or file place 0 - 48))
    None

-- The line of the key due: its word, '=', a value and an LF give the value and where the next line starts.
unfoldable pub line_at : List ℕ → ℕ → ℕ → Line
line_at file place key =
    cond (stands file place (word key ++ (61 ∷ []))) (value_from file (place + length (word key) + 1)) None
