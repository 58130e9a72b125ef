-- The whole outcome of numbering a plan's rows in lent lists (document 01, "Bounds" and "Numbers that say no").
use Rattle.std.specs.Prelude.{◌≡◌, Bool, true, false, List, ℕ, suc, Err, Ok, Result}
use Rattle.facts.specs.Filled.{filled}
use Rattle.table.specs.declared.refusal.Refusal.{Refusal}
use Rattle.table.specs.declared.refusal.Refusal.TheVariants.{NotAPlan, NoBusyLength, TooShort}
use Rattle.table.specs.Table.{Table, rows, long_enough, is_plan}
use Rattle.busy.specs.Busy.{Numbers, Analysis, Stuck}

-- The three lent lists, each with an entry for each row.
pub record RowLists : Type 0 where
  pub busy : List ℕ
  pub instances : List ℕ
  pub bound : List ℕ

abbrev pub row_lists_of : List ℕ → List ℕ → List ℕ → RowLists
row_lists_of busy instances bound = record { busy = busy; instances = instances; bound = bound }

-- Each of them has an entry for each row.
abbrev pub room_for_rows : Table → RowLists → Bool
room_for_rows T l = long_enough (rows T) l.busy l.instances l.bound

-- The lists with the rows' numbers filled in; the rest of each stays.
unfoldable pub rows_filled_in : Table → Numbers → RowLists → RowLists
rows_filled_in T N l = record {
  busy = filled N.busy (rows T) l.busy;
  instances = filled N.instances (rows T) l.instances;
  bound = filled N.bound (rows T) l.bound;
}

-- The rows have numbers: the lists are filled with them, and the answer is how many rows there are.
pub record Found (T : Table) (before after : RowLists) (answer : ℕ) : Type 0 where
  pub numbers : Numbers
  pub analysis : Analysis T numbers
  pub lists : after ≡ rows_filled_in T numbers before
  pub says : answer ≡ rows T

-- When each refusal is given, in the order 5, 7, 6; there is no other.
pub data Unnumbered (T : Table) (before : RowLists) (r : Refusal) : Type 0 where
  no_plan : r ≡ NotAPlan → is_plan T ≡ false → Unnumbered T before r
  too_short : r ≡ TooShort (rows T) → is_plan T ≡ true → room_for_rows T before ≡ false → Unnumbered T before r
  no_busy_length :
      {row : ℕ} → r ≡ NoBusyLength (suc row) → is_plan T ≡ true → room_for_rows T before ≡ true → Stuck T row → Unnumbered T before r

-- The whole outcome of numbering the rows of table T in the lent lists: a refusal leaves them as they were.
abbrev pub Numbering : Table → RowLists → RowLists → Result ℕ Refusal → Type 0
Numbering T before after (Ok answer) = (is_plan T ≡ true) × (room_for_rows T before ≡ true) × Found T before after answer
Numbering T before after (Err r) = Unnumbered T before r × (after ≡ before)
