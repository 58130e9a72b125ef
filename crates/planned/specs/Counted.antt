-- How many rows a table has.
use Rattle.std.specs.Prelude.{ℕ, ◌≡◌, true, false, Result, Ok, Err}
use Rattle.table.specs.Table.{Table, rows, is_plan}
use Rattle.table.specs.declared.refusal.Refusal.{Refusal}
use Rattle.table.specs.declared.refusal.Refusal.TheVariants.{NotAPlan}

-- A plan has as many as its steps add up to, and a table that is none is refused with 5.
abbrev pub Counted : Table → Result ℕ Refusal → Type 0
Counted T (Ok n) = (is_plan T ≡ true) × (n ≡ rows T)
Counted T (Err refusal) = (refusal ≡ NotAPlan) × (is_plan T ≡ false)
