-- A table's rows as the analysis reads them. The private functions promise these.
use Rattle.std.specs.Prelude.{◌≡◌, true, false, List, ℕ}
use Rattle.facts.specs.Filled.{filled}
use Rattle.table.specs.Table.{Table, at, rows, is_plan}
use Rattle.table.specs.Plan.{plan_of}
use Rattle.busy.specs.Busy.{Numbers}

-- The table is a plan with so many rows, and their periods are filled in; or it is no plan and the number is 0.
pub data Viewing (T : Table) (before after : List ℕ) (n : ℕ) : Type 0 where
  plan : is_plan T ≡ true → n ≡ rows T → after ≡ filled (plan_of T).period (rows T) before → Viewing T before after n
  none : is_plan T ≡ false → n ≡ 0 → Viewing T before after n

-- The numbers of the rows, from their lists.
abbrev pub numbers_of : List ℕ → List ℕ → List ℕ → Numbers
numbers_of busy instances bound = record { busy = at busy; instances = at instances; bound = at bound }
