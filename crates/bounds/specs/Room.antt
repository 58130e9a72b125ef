-- What the lent lists need. The private functions promise these.
use Rattle.std.specs.Prelude.{cond, ◌&&◌, ℕ, leb, length}
use Rattle.table.specs.Table.{Table, rows, long_enough, is_plan}
use Rattle.bounds.specs.Bounds.{Lists}

-- How many rows the table's plan has; 0 if the table is no plan.
abbrev pub rows_in : Table → ℕ
rows_in T = cond (is_plan T) (rows T) 0

-- What the first short list needs where there are so many rows and tasks, row lists before task lists; 0 where none is short.
unfoldable pub needed_for : ℕ → ℕ → Lists → ℕ
needed_for rows tasks l =
    cond (long_enough rows l.busy l.instances l.bound)
    (cond (leb tasks (length l.chain) && leb tasks (length l.slack)) 0 tasks)
    rows
