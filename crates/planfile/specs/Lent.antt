-- The lists that are lent to be filled.
use Rattle.std.specs.Prelude.{ℕ, List, [], ◌∷◌}
use Rattle.planfile.specs.declared.lists.TableListsMut.{TableListsMut}
use Rattle.planfile.specs.Reading.{Lists, lists_of}

-- What they hold,
abbrev pub lists_in : TableListsMut → Lists
lists_in l = lists_of l.period.now l.deadline.now l.steps.now l.processor.now l.priority.now l.time.now

-- and the names of what was lent.
abbrev pub places : TableListsMut → List ℕ
places l =
    l.period.ghost_name
    ∷ l.deadline.ghost_name
    ∷ l.steps.ghost_name
    ∷ l.processor.ghost_name
    ∷ l.priority.ghost_name
    ∷ l.time.ghost_name
    ∷ []
