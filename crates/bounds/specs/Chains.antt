-- The chains' part of the bounds. The private functions promise these.
use Rattle.std.specs.Prelude.{List, [], ℕ, ◌≤◌, ◌<◌, length}
use Rattle.table.specs.Table.{Table, at, rows}
use Rattle.busy.specs.Rows.{numbers_of}
use Rattle.bounds.specs.Bounds.{Numbers}

-- The bounds alone: chains read no more.
abbrev pub bounds_of : List ℕ → Numbers
bounds_of bound = numbers_of [] [] bound

-- The table has so many tasks, in range, of at most 128 rows with bounds up to 10,000,000.
pub record Chained (T : Table) (bound : List ℕ) : Type 0 where
  pub few : T.tasks ≤ 32
  pub periods : T.tasks ≤ length T.period
  pub deadlines : T.tasks ≤ length T.deadline
  pub counts : T.tasks ≤ length T.steps
  pub bounds : rows T ≤ length bound
  pub period_most : (i : ℕ) → i < T.tasks → at T.period i ≤ 1000000
  pub deadline_most : (i : ℕ) → i < T.tasks → at T.deadline i ≤ 160000000
  pub steps_most : (i : ℕ) → i < T.tasks → at T.steps i ≤ 16
  pub rows_most : rows T ≤ 128
  pub bound_most : (r : ℕ) → r < rows T → at bound r ≤ 10000000
