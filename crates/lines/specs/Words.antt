-- The words of the keys, as bytes.
use Rattle.std.specs.Prelude.{ℕ, List, [], ◌∷◌, get_or}
use Rattle.text.specs.Text.{bytes_of, line}

-- The word of each key by its number.
unfoldable pub words : List (List ℕ)
words =
    bytes_of "plan"
    ∷ bytes_of "processors"
    ∷ bytes_of "tasks"
    ∷ bytes_of "task"
    ∷ bytes_of "period"
    ∷ bytes_of "deadline"
    ∷ bytes_of "steps"
    ∷ bytes_of "processor"
    ∷ bytes_of "priority"
    ∷ bytes_of "time"
    ∷ []

-- The word of a key.
unfoldable pub word : ℕ → List ℕ
word key = get_or words key []

-- The line of a key and a value.
unfoldable pub line_of : ℕ → ℕ → List ℕ
line_of key value = line (word key) value
