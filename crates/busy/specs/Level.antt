-- The level of a row as it is gathered. The private functions of the analysis promise these.
use Rattle.std.specs.Prelude.{◌≡◌, Bool, false, cond, ◌&&◌, List, ◌⊎◌, ℕ, ◌+◌, ◌≤◌, ◌<◌, ltb, eqb, length, set}
use Rattle.table.specs.Table.{Table, at}
use Rattle.table.specs.declared.refusal.Refusal.{Refusal}
use Rattle.table.specs.declared.refusal.Refusal.TheVariants.{NoBusyLength}
use Rattle.table.specs.Plan.{Plan}
use Rattle.facts.specs.Rounding.{ceil}
use Rattle.facts.specs.Least.{Unanswered}
use Rattle.equations.specs.Row.{Row, work, Greatest, RowBounds}
use Rattle.equations.specs.Beside.{row_of}
use Rattle.equations.specs.BesideLaws.{Tied}
use Rattle.busy.specs.Busy.{limit}
use Rattle.busy.specs.Collected.{count_if, collected, scattered}
use Rattle.busy.specs.Climb.{Ranged, work_of, gathered_row}

-- Rows gathered side by side: the tied ones come first, then the more urgent ones, `count` in all.
pub record Level : Type 0 where
  pub tied : ℕ
  pub count : ℕ
  pub index : List ℕ
  pub period : List ℕ
  pub cost : List ℕ

abbrev pub level_by : ℕ → ℕ → List ℕ → List ℕ → List ℕ → Level
level_by tied count index period cost = record { tied = tied; count = count; index = index; period = period; cost = cost }

-- The lists that a level is gathered into have 128 entries,
pub record Roomy (index period cost : List ℕ) : Type 0 where
  pub index_size : length index ≡ 128
  pub period_size : length period ≡ 128
  pub cost_size : length cost ≡ 128

-- and so have all that are lent for the work on it.
pub record Lent (index period cost due later begin best : List ℕ) : Type 0 where
  pub roomy : Roomy index period cost
  pub due_size : length due ≡ 128
  pub later_size : length later ≡ 128
  pub begin_size : length begin ≡ 128
  pub best_size : length best ≡ 128

-- The plan whose rows are these lists; which of them are first says nothing here.
abbrev pub plan_by : ℕ → List ℕ → List ℕ → List ℕ → List ℕ → Plan
plan_by rows period processor priority time = record {
  rows = rows;
  period = at period;
  cost = at time;
  processor = at processor;
  priority = at priority;
  first = λ r. false;
}

-- The plan of a table's rows, with these as their periods.
abbrev pub plan_seen : ℕ → List ℕ → Table → Plan
plan_seen rows period T = plan_by rows period T.processor T.priority T.time

-- The lists have so many rows, in range.
pub record Usable (rows : ℕ) (period processor priority time : List ℕ) : Type 0 where
  pub few : rows ≤ 128
  pub periods : rows ≤ length period
  pub processors : rows ≤ length processor
  pub priorities : rows ≤ length priority
  pub times : rows ≤ length time
  pub period_least : (r : ℕ) → r < rows → 1 ≤ at period r
  pub period_most : (r : ℕ) → r < rows → at period r ≤ 1000000
  pub time_least : (r : ℕ) → r < rows → 1 ≤ at time r
  pub time_most : (r : ℕ) → r < rows → at time r ≤ 1000000

-- A row is tied with one of this place and rank, or else is more urgent there.
unfoldable pub chosen : ℕ → ℕ → ℕ → ℕ → Bool → Bool
chosen processor priority place rank tied = eqb processor place && cond tied (eqb priority rank) (ltb rank priority)

abbrev pub chosen_in : List ℕ → List ℕ → ℕ → ℕ → Bool → ℕ → Bool
chosen_in processor priority place rank tied r = chosen (at processor r) (at priority r) place rank tied

-- The same for the rows of a table and its row r.
abbrev pub chosen_by : Table → ℕ → Bool → ℕ → Bool
chosen_by T r tied = chosen_in T.processor T.priority (at T.processor r) (at T.priority r) tied

-- The level with one row more, the last.
abbrev pub pushed : ℕ → ℕ → ℕ → Level → Level
pushed row period cost l = record {
  tied = l.tied;
  count = l.count + 1;
  index = set l.index l.count row;
  period = set l.period l.count period;
  cost = set l.cost l.count cost;
}

-- The level with the rows below n that pass the test gathered behind those that it has.
unfoldable pub gathered : (ℕ → Bool) → List ℕ → List ℕ → ℕ → Level → Level
gathered b period time n l = record {
  tied = l.tied;
  count = l.count + count_if n b;
  index = collected b (λ r. r) l.count n l.index;
  period = collected b (at period) l.count n l.period;
  cost = collected b (at time) l.count n l.cost;
}

-- A level that can be climbed: some rows, in range, the tied ones among them.
pub record Sound (l : Level) : Type 0 where
  pub tied_most : l.tied ≤ l.count
  pub any : 0 < l.count
  pub ranged : Ranged l.count l.period l.cost
  pub indices : l.count ≤ length l.index

-- The work of the level's rows, and the equations of its row i.
abbrev pub level_work : Level → ℕ → ℕ
level_work l = work_of l.count l.period l.cost

abbrev pub level_row : Level → ℕ → Row
level_row l i = gathered_row l.count l.period l.cost i

-- It is the level of the plan's row r.
pub record LevelOf (P : Plan) (r : ℕ) (l : Level) : Type 0 where
  pub sound : Sound l
  pub index_row : (i : ℕ) → i < l.tied → at l.index i < P.rows
  pub index_tied : (i : ℕ) → i < l.tied → Tied P (at l.index i) r
  pub period_is : (i : ℕ) → i < l.tied → at l.period i ≡ P.period (at l.index i)
  pub cost_is : (i : ℕ) → i < l.tied → at l.cost i ≡ P.cost (at l.index i)
  pub work_is : (t : ℕ) → level_work l t ≡ work (row_of P r) t
  pub own : ℕ
  pub own_tied : own < l.tied
  pub own_is : at l.index own ≡ r

-- The bounds of the tied rows, where D is the level's busy length.
pub record TiedBounds (l : Level) (D : ℕ) (bound : List ℕ) : Type 0 where
  pub each : (i : ℕ) → i < l.tied → Greatest (level_row l i) (ceil D (at l.period i)) (at bound i)

-- The lists with the numbers of the tied rows laid in.
pub record Laid (tied D : ℕ) (index period best busy instances bound busy' instances' bound' : List ℕ) : Type 0 where
  pub busy_is : busy' ≡ scattered (at index) (λ i. D) tied busy
  pub instances_is : instances' ≡ scattered (at index) (λ i. ceil D (at period i)) tied instances
  pub bound_is : bound' ≡ scattered (at index) (at best) tied bound

-- Row k's numbers stand in the lists, its busy length within the limit.
pub record Solved (P : Plan) (busy instances bound : List ℕ) (k : ℕ) : Type 0 where
  pub bounds : RowBounds (row_of P k) (at busy k) (at instances k) (at bound k)
  pub within : at busy k ≤ limit

-- The rows before `done` are solved; where that is not all of them, row `done` has no busy length up to the limit.
pub record Analysed (P : Plan) (busy instances bound : List ℕ) (done : ℕ) : Type 0 where
  pub most : done ≤ P.rows
  pub solved : (k : ℕ) → k < done → Solved P busy instances bound k
  pub stuck : done < P.rows → Unanswered (work (row_of P done)) limit

-- On the way: the rows before `row` are solved, and of the others each is solved or its busy length is 0 yet.
pub record Partly (P : Plan) (busy instances bound : List ℕ) (row : ℕ) : Type 0 where
  pub done : (k : ℕ) → k < row → Solved P busy instances bound k
  pub each : (k : ℕ) → k < P.rows → (at busy k ≡ 0) ⊎ Solved P busy instances bound k

-- The same with the sizes of the lists: those of the numbers are what they were at first.
pub record Going
    (P : Plan) (busy₀ instances₀ bound₀ busy instances bound index period cost due later begin best : List ℕ) (row : ℕ) : Type 0 where
  pub most : row ≤ P.rows
  pub busy_size : length busy ≡ length busy₀
  pub instances_size : length instances ≡ length instances₀
  pub bound_size : length bound ≡ length bound₀
  pub partly : Partly P busy instances bound row
  pub lent : Lent index period cost due later begin best

-- The analysis stopped: row `row`, counted from 0, is the first with no busy length up to the limit.
pub record Stopped (P : Plan) (busy instances bound : List ℕ) (r : Refusal) : Type 0 where
  pub row : ℕ
  pub refusal : r ≡ NoBusyLength (row + 1)
  pub in_plan : row < P.rows
  pub analysed : Analysed P busy instances bound row
