-- A state in a clock and four lent lists, and what the calls come to on them.
use Rattle.std.specs.Prelude.{ℕ, ◌≤◌, Bool, cond, not, ◌&&◌, List, leb, length, Err, Ok}
use Rattle.table.specs.Table.{Table, rows, is_plan, most_rows}
use Rattle.table.specs.Refusals.{last_clock}
use Rattle.table.specs.declared.refusal.Refusal.{Refusal}
use Rattle.table.specs.declared.refusal.Refusal.TheVariants.{StateDoesNotFit}
use Rattle.guards.specs.declared.state.State.{State}
use Rattle.guards.specs.Outcome.{Outcome}
use Rattle.guards.specs.Outcome.{Called}
use Rattle.guards.specs.Calls.{TickOutcome, refused, stays}
use Rattle.guards.specs.Rows.{Rows, rows_fit}

-- The state of a clock and four lists.
abbrev pub state_of : ℕ → List ℕ → List ℕ → List ℕ → List ℕ → State
state_of clock released completed used guard = record {
  clock = clock;
  released = released;
  completed = completed;
  used = used;
  guard = guard;
}

-- A call is refused at a clock, or taken.
abbrev pub refused_at : Refusal → ℕ → Called
refused_at refusal clock = record { answer = Err refusal; clock = clock }

abbrev pub taken_at : ℕ → ℕ → Called
taken_at answer clock = record { answer = Ok answer; clock = clock }

-- The outcome of a call that leaves these lists.
abbrev pub outcome_of : Called → List ℕ → List ℕ → List ℕ → List ℕ → Outcome
outcome_of called released completed used guard = record {
  answer = called.answer;
  state = state_of called.clock released completed used guard;
}

-- Each of the four lists has an entry for each of n rows.
unfoldable pub holds : ℕ → List ℕ → List ℕ → List ℕ → List ℕ → Bool
holds n released completed used guard =
    leb n (length released) && (leb n (length completed) && (leb n (length used) && leb n (length guard)))

-- What a call on lists comes to, given what it comes to on a state: lists of which one is shorter than the plan's rows hold
-- no state that fits, 14.
unfoldable pub on_lists : Table → State → Outcome → Outcome
on_lists T σ o =
    cond (is_plan T && not (holds (rows T) σ.released σ.completed σ.used σ.guard)) (refused StateDoesNotFit σ) o

-- A tick on lists, the same way.
unfoldable pub tick_on_lists : Table → State → List ℕ → TickOutcome → TickOutcome
tick_on_lists T σ released o =
    cond (is_plan T && not (holds (rows T) σ.released σ.completed σ.used σ.guard)) (stays StateDoesNotFit σ released) o

-- The rows are few, and each has its period, its time and whether it is first.
unfoldable pub stand : ℕ → List ℕ → List Bool → List ℕ → Bool
stand n period first time =
    leb n most_rows && (leb n (length period) && (leb n (length first) && leb n (length time)))

-- Rows and state have their place in the lists, and the state fits the rows.
unfoldable pub rows_fit_in : Rows → List ℕ → State → Bool
rows_fit_in R time σ =
    stand R.count R.period R.first time
    && (holds R.count σ.released σ.completed σ.used σ.guard && rows_fit R time σ)

-- Each list of the state has an entry for each of n rows.
pub record Long (n : ℕ) (σ : State) : Type 0 where
  pub released : n ≤ length σ.released
  pub completed : n ≤ length σ.completed
  pub used : n ≤ length σ.used
  pub guard : n ≤ length σ.guard

-- What the test of each row reads: its entry in every list, and a clock in its limit.
pub record Fitting (n : ℕ) (period : List ℕ) (first : List Bool) (time : List ℕ) (σ : State) : Type 0 where
  pub few : n ≤ 128
  pub period_long : n ≤ length period
  pub first_long : n ≤ length first
  pub time_long : n ≤ length time
  pub lists : Long n σ
  pub clock_most : σ.clock ≤ last_clock
