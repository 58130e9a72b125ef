-- The bytes of a table: what a plan file means (document 01, "The plan on paper").
use Rattle.std.specs.Prelude.{ℕ, zero, suc, ◌+◌, ◌*◌, List, [], ◌∷◌, ◌++◌, length, get_or}
use Rattle.table.specs.Table.{Table, at, rows}
use Rattle.lines.specs.Words.{line_of}
use Rattle.planfile.specs.Draft.{Draft, blank, advanced}

-- The value that the table has for the key due: `plan` is 1, `processors` and `tasks` are its counts, `task` is the next
-- number, and any other key takes its list's next entry.
unfoldable pub value_for : Table → Draft → ℕ
value_for T d =
    get_or
    (1
    ∷ T.processors
    ∷ T.tasks
    ∷ (length d.table.steps + 1)
    ∷ at T.period (length d.table.period)
    ∷ at T.deadline (length d.table.deadline)
    ∷ at T.steps (length d.table.steps)
    ∷ at T.processor (length d.table.processor)
    ∷ at T.priority (length d.table.priority)
    ∷ at T.time (length d.table.time)
    ∷ [])
    d.key
    0

-- The next n lines of the table from a draft of it on.
unfoldable pub lines_from : ℕ → Table → Draft → List ℕ
lines_from zero T d = []
lines_from (suc n) T d = line_of d.key (value_for T d) ++ lines_from n T (advanced d (value_for T d))

-- Three lines first, four for each task and three for each row.
unfoldable pub lines_of : Table → ℕ
lines_of T = 3 + 4 * T.tasks + 3 * rows T

-- The file of a table: all its lines.
unfoldable pub file_of : Table → List ℕ
file_of T = lines_from (lines_of T) T blank
