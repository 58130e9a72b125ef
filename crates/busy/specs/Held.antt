-- What the structs hold.
use Rattle.std.specs.Prelude.{List, [], ◌∷◌, ℕ}
use Rattle.busy.specs.declared.level.Level.{Level as Gathered}
use Rattle.busy.specs.declared.lists.RowLists.{RowLists as Lent}
use Rattle.busy.specs.Level.{Level, level_by}
use Rattle.busy.specs.Numbering.{RowLists, row_lists_of}

-- The level that is gathered.
abbrev pub level_in : Gathered → Level
level_in l = level_by l.tied l.count l.index l.period l.cost

-- The lists that are lent,
abbrev pub row_lists_in : Lent → RowLists
row_lists_in l = row_lists_of l.busy.now l.instances.now l.bounds.now

-- and the names of the `&mut`s to them.
abbrev pub names_in : Lent → List ℕ
names_in l = l.busy.ghost_name ∷ l.instances.ghost_name ∷ l.bounds.ghost_name ∷ []
