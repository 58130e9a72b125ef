-- A task's first row, one task after the other.
use Rattle.std.proofs.Common.{ℕ, ◌+◌, ◌≡◌, add-one}
use Rattle.table.specs.Table.{Table, at, first_row}
use Rattle.table.specs.PlanLaws.{first_row_none, first_row_suc}

pub first_row_zero : (T : Table) → first_row T 0 ≡ 0
first_row_zero T = first_row_none T

pub first_row_more : (T : Table) (i : ℕ) → first_row T (i + 1) ≡ first_row T i + at T.steps i
first_row_more T i = rw (add-one i) (first_row_suc T i)
