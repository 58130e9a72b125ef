-- The outcome of viewing a table's rows: how many there are, each row's period, and whether it is the first of its chain.
use Rattle.std.specs.Prelude.{ℕ, Bool, cond, ◌&&◌, List, leb, length, Err, Ok, Result}
use Rattle.facts.specs.Filled.{filled}
use Rattle.table.specs.declared.refusal.Refusal.{Refusal}
use Rattle.table.specs.declared.refusal.Refusal.TheVariants.{NotAPlan, TooShort}
use Rattle.table.specs.Table.{Table, rows, is_plan}
use Rattle.table.specs.Plan.{plan_of}

-- The answer and the two lists as they then are.
pub record Viewed : Type 0 where
  pub answer : Result ℕ Refusal
  pub period : List ℕ
  pub first : List Bool

-- A table that is no plan is refused with 5, lists too short for its rows with 7, and both leave the lists; else the rows
-- fill their front.
unfoldable pub viewed : Table → List ℕ → List Bool → Viewed
viewed T period first =
    cond (is_plan T)
    (cond (leb (rows T) (length period) && leb (rows T) (length first))
    (record { answer = Ok (rows T); period = filled (plan_of T).period (rows T) period; first = filled (plan_of T).first (rows T) first })
    (record { answer = Err (TooShort (rows T)); period = period; first = first }))
    (record { answer = Err NotAPlan; period = period; first = first })
