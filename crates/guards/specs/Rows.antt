-- A plan's rows in the lists that the calls read.
use Rattle.std.specs.Prelude.{ℕ, ◌+◌, Bool, false, cond, not, ◌&&◌, ◌||◌, List, [], leb, ltb, eqb, length, get_or, Err, Ok, Result}
use Rattle.table.specs.declared.refusal.Refusal.{Refusal}
use Rattle.table.specs.Table.{Table, at, most_rows}
use Rattle.table.specs.Plan.{Plan}
use Rattle.planned.specs.View.{viewed}
use Rattle.guards.specs.declared.state.State.{State}
use Rattle.guards.specs.Moment.{moment_of}
use Rattle.guards.specs.Fits.{fits}

-- A plan's rows in lists: how many, each row's period, and whether it is the first of its chain.
pub record Rows : Type 0 where
  pub count : ℕ
  pub period : List ℕ
  pub first : List Bool

-- How many rows the view of a table has: none where it is refused.
abbrev pub count_of : Result ℕ Refusal → ℕ
count_of (Ok count) = count
count_of (Err refusal) = 0

-- The rows of a table laid into two lists; where it is no plan, or a list is too short, there are none.
unfoldable pub rows_in : Table → List ℕ → List Bool → Rows
rows_in T period first = record {
  count = count_of (viewed T period first).answer;
  period = (viewed T period first).period;
  first = (viewed T period first).first;
}

-- The plan of so many rows that these lists hold; a list that is not asked for may be empty.
abbrev pub plan_from : ℕ → List ℕ → List Bool → List ℕ → List ℕ → List ℕ → Plan
plan_from count period first processor priority time = record {
  rows = count;
  period = at period;
  cost = at time;
  processor = at processor;
  priority = at priority;
  first = λ r. get_or first r false;
}

-- What fitting asks of a row's instances and used ticks.
unfoldable pub counts_fit : ℕ → ℕ → ℕ → ℕ → ℕ → Bool
counts_fit clock released completed used time =
    leb completed released && (leb released (clock + 1) && (ltb used time && (ltb completed released || eqb used 0)))

-- What fitting asks of a row's guard and releases: by whether it is first, and what the row before it has completed.
unfoldable pub chain_fits : Bool → ℕ → ℕ → ℕ → ℕ → ℕ → Bool
chain_fits first clock period released guard before =
    leb guard (clock + period)
    && cond first (not (eqb released (clock + 1)) || ltb clock guard)
    (leb released before && (not (ltb released before) || ltb clock guard))

-- The rows have their place in the lists, and the state fits the plan of these rows with their times.
unfoldable pub rows_fit : Rows → List ℕ → State → Bool
rows_fit R time σ =
    leb R.count most_rows
    && (leb R.count (length time)
    && fits (plan_from R.count R.period R.first [] [] time) (moment_of σ))
