-- Rows counted from 1, as the guards' definitions count them, and 0 for none.
use Rattle.std.specs.Prelude.{ℕ, suc, List, map, Option, Some, None}

unfoldable pub number : Option ℕ → ℕ
number None = 0
number (Some row) = suc row

abbrev pub numbers : List (Option ℕ) → List ℕ
numbers rows = map number rows
