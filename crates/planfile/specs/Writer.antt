-- The steps of writing a file: the value of the line due.
use Rattle.std.specs.Prelude.{ℕ, ◌+◌, List, [], ◌∷◌, get_or}
use Rattle.table.specs.Table.{Table, at}
use Rattle.planfile.specs.declared.due.Due.{Due}
use Rattle.planfile.specs.Reading.{Lists, lists_of}

-- The six lists of a table.
abbrev pub lists_held : Table → Lists
lists_held T = lists_of T.period T.deadline T.steps T.processor T.priority T.time

-- The values that the table has for the keys, by their numbers, at the task or the row that is given.
unfoldable pub values_due : Table → Due → List ℕ
values_due T u =
    1
    ∷ T.processors
    ∷ T.tasks
    ∷ (u.task + 1)
    ∷ at T.period u.task
    ∷ at T.deadline u.task
    ∷ at T.steps u.task
    ∷ at T.processor u.row
    ∷ at T.priority u.row
    ∷ at T.time u.row
    ∷ []

-- The value for the key due.
unfoldable pub value_due : Table → Due → ℕ
value_due T u = get_or (values_due T u) u.key 0
