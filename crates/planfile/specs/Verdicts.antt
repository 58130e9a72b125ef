-- What a file is judged by: which of its lines are right, and the first that is not (document 01, "Numbers that say no").
use Rattle.std.specs.Prelude.{ℕ, suc, ◌≡◌, true, false, List, length}
use Rattle.table.specs.Keys.{no_key}
use Rattle.table.specs.Ranges.{in_range}
use Rattle.table.specs.declared.refusal.Refusal.TheVariants.{NotTheLineDue, OutOfRange, TooManyRows}
use Rattle.lines.specs.LineStands.{LineStands}
use Rattle.planfile.specs.Draft.{Draft, blank, own, advanced}
use Rattle.planfile.specs.Reading.{Held, table, refusal, too_many}

-- The line at the place is right: a line is due, it is of the form and key due, its value is in its range, and it does not
-- bring the rows above 128.
pub record RightLine (file : List ℕ) (place : ℕ) (d : Draft) (value behind : ℕ) : Type 0 where
  pub due : d.key ≡ no_key → ⊥
  pub stands : LineStands file place d.key value behind
  pub within : in_range d.key (own d) value ≡ true
  pub few : too_many d value ≡ false

-- The first k lines of the file are right, end before the place and give the draft.
pub data RightLines (file : List ℕ) : ℕ → ℕ → Draft → Type 0 where
  none : RightLines file 0 0 blank
  more :
      {k place : ℕ} {d : Draft} (value behind : ℕ) → RightLines file k place d → RightLine file place d value behind
      → RightLines file (suc k) behind (advanced d value)

-- What a file holds, by its lines: all of them are right and the file ends behind the last, which gives the table; or the
-- first k are right and the next is refused, 2 where no line of the form and key due stands there (as where the file ends)
-- or where bytes follow the last line, 3 for its value, 4 for the rows.
pub data Verdict (file : List ℕ) : Held → Type 0 where
  all_right : {k : ℕ} {d : Draft} → RightLines file k (length file) d → d.key ≡ no_key → Verdict file (table d.table)
  not_due :
      {k place : ℕ} {d : Draft} → RightLines file k place d → (d.key ≡ no_key → ⊥)
      → ((value behind : ℕ) → LineStands file place d.key value behind → ⊥) → Verdict file (refusal (NotTheLineDue (suc k)))
  bytes_follow :
      {k place : ℕ} {d : Draft} → RightLines file k place d → d.key ≡ no_key → (place ≡ length file → ⊥)
      → Verdict file (refusal (NotTheLineDue (suc k)))
  out_of_range :
      {k place : ℕ} {d : Draft} (value behind : ℕ) → RightLines file k place d → (d.key ≡ no_key → ⊥)
      → LineStands file place d.key value behind → in_range d.key (own d) value ≡ false
      → Verdict file (refusal (OutOfRange (suc k)))
  too_many_rows :
      {k place : ℕ} {d : Draft} (value behind : ℕ) → RightLines file k place d → (d.key ≡ no_key → ⊥)
      → LineStands file place d.key value behind → in_range d.key (own d) value ≡ true → too_many d value ≡ true
      → Verdict file (refusal (TooManyRows (suc k)))
