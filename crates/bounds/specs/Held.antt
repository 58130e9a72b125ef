-- What the structs hold.
use Rattle.std.specs.Prelude.{List, [], ◌∷◌, ℕ}
use Rattle.bounds.specs.declared.lists.BoundLists.{BoundLists}
use Rattle.bounds.specs.Bounds.{Lists, lists_of}

-- The lists that are lent,
abbrev pub lists_in : BoundLists → Lists
lists_in l = lists_of l.busy.now l.instances.now l.bounds.now l.chains.now l.slack.now

-- and the names of the `&mut`s to them.
abbrev pub names_in : BoundLists → List ℕ
names_in l = l.busy.ghost_name ∷ l.instances.ghost_name ∷ l.bounds.ghost_name ∷ l.chains.ghost_name ∷ l.slack.ghost_name ∷ []
