-- Least and most value of each key (document 01, "The plan on paper": "The ranges stand in one fixed table by key").
use Rattle.std.specs.Prelude.{ℕ, Bool, cond, ◌&&◌, List, [], ◌∷◌, leb, eqb, get_or}
use Rattle.table.specs.declared.ranges.Range.{Range}
use Rattle.table.specs.Keys.{task_key, processor_key}

abbrev from_to : ℕ → ℕ → Range
from_to a b = record { least = a; most = b }

-- The fixed table by key; `task` and `processor` take the plan's own and have their outermost limits here.
unfoldable pub ranges : List Range
ranges =
    from_to 1 1
    ∷ from_to 1 16
    ∷ from_to 1 32
    ∷ from_to 1 32
    ∷ from_to 1 1000000
    ∷ from_to 0 160000000
    ∷ from_to 1 16
    ∷ from_to 1 16
    ∷ from_to 1 255
    ∷ from_to 1 1000000
    ∷ []

-- The range of a key, where the plan's own number is the next task's number for `task` and the plan's processors for
-- `processor`, and is not looked at for other keys. A number that is no key's has an empty range.
unfoldable pub range_of : ℕ → ℕ → Range
range_of key own =
    cond (eqb key task_key) (from_to own own)
    (cond (eqb key processor_key) (from_to 1 own) (get_or ranges key (from_to 1 0)))

-- The value is in the range of its key.
unfoldable pub in_range : ℕ → ℕ → ℕ → Bool
in_range key own value = leb (range_of key own).least value && leb value (range_of key own).most
