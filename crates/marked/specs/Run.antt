-- Runs of calls, in the very outcomes that the contracts of the guards name.
use Rattle.std.specs.Prelude.{ℕ, ◌+◌, Bool, true, false, cond, ◌&&◌, ◌||◌, List, [], ◌∷◌, ◌++◌, ltb, eqb, Err, Ok, Result}
use Rattle.facts.specs.Filled.{tab, joined}
use Rattle.table.specs.declared.refusal.Refusal.{Refusal}
use Rattle.table.specs.Table.{Table, at, rows}
use Rattle.table.specs.Plan.{plan_of}
use Rattle.guards.specs.declared.state.State.{State}
use Rattle.guards.specs.Moment.{moment_of}
use Rattle.guards.specs.Calls.{arrive, used_up, TickOutcome, tick}

-- A call: the arrival of a task, by its number; or a tick, with the done list that is made of the state.
pub data Call : Type 0 where
  arrival : ℕ → Call
  clock_tick : (State → List ℕ) → Call

-- The release list lent to a call: none to an arrival, and to a tick an entry for each row, neither 0 nor 1.
unfoldable pub lent_to : Table → Call → List ℕ
lent_to T (arrival task) = []
lent_to T (clock_tick done) = tab (λ r. 9) (rows T)

-- What a call comes to.
unfoldable pub outcome_of : Table → State → Call → TickOutcome
outcome_of T σ (arrival task) = record { outcome = arrive T σ task; released = lent_to T (arrival task) }
outcome_of T σ (clock_tick done) = tick T σ (done σ) (lent_to T (clock_tick done))

-- One call of a run: the state that it found, and what it came to.
pub record Step : Type 0 where
  pub found : State
  pub call : Call
  pub left : TickOutcome

-- The run of these calls.
unfoldable pub steps : Table → State → List Call → List Step
steps T σ [] = []
steps T σ (call ∷ calls) =
    let left = outcome_of T σ call in
    record { found = σ; call = call; left = left } ∷ steps T left.outcome.state calls

-- The state after these calls.
unfoldable pub after : Table → State → List Call → State
after T σ [] = σ
after T σ (call ∷ calls) = after T (outcome_of T σ call).outcome.state calls

-- The answer is not a refusal.
unfoldable pub is_taken : Result ℕ Refusal → Bool
is_taken (Ok number) = true
is_taken (Err refusal) = false

-- No call of the run is refused.
unfoldable pub all_taken : List Step → Bool
all_taken [] = true
all_taken (s ∷ ss) = is_taken s.left.outcome.answer && all_taken ss

-- The clocks after those calls of the run that pass the test.
unfoldable pub clocks : (Step → Bool) → List Step → List ℕ
clocks test [] = []
clocks test (s ∷ ss) = cond (test s) (s.left.outcome.state.clock ∷ clocks test ss) (clocks test ss)

-- The answer is this number.
unfoldable pub answers : ℕ → Result ℕ Refusal → Bool
answers n (Ok number) = eqb n number
answers n (Err refusal) = false

-- By what the caller is told, the call released row r, counted from 0: an arrival answers its number, and the release list
-- of a tick has 1 for it.
unfoldable pub told : ℕ → Call → TickOutcome → Bool
told r (arrival task) w = answers (r + 1) w.outcome.answer
told r (clock_tick done) w = eqb (at w.released r) 1

unfoldable pub told_released : ℕ → Step → Bool
told_released r s = told r s.call s.left

-- The state counts an instance of row r more that is released, or that is completed.
unfoldable pub counted_released : ℕ → Step → Bool
counted_released r s = ltb (at s.found.released r) (at s.left.outcome.state.released r)

unfoldable pub counted_completed : ℕ → Step → Bool
counted_completed r s = ltb (at s.found.completed r) (at s.left.outcome.state.completed r)

-- A row, by its number, and the clocks at which a run releases it and at which it completes.
pub record RowRun : Type 0 where
  pub row : ℕ
  pub released : List ℕ
  pub completed : List ℕ

-- All rows of the plan with their clocks, by this test of a release.
unfoldable pub row_runs : (ℕ → Step → Bool) → Table → List Step → List RowRun
row_runs releases T run =
    tab (λ r. record { row = r + 1; released = clocks (releases r) run; completed = clocks (counted_completed r) run }) (rows T)

-- The done list at full times: 1 exactly where the running instance has one tick of its time left, so that 0 would be
-- refused with 12.
unfoldable pub full_times : Table → State → List ℕ
full_times T σ = tab (λ i. cond (used_up (plan_of T) (moment_of σ) [] i) 1 0) T.processors

-- A task, by its number, and the clocks at which it arrives.
pub record Arrivals : Type 0 where
  pub task : ℕ
  pub clocks : List ℕ

-- The number is in the list.
unfoldable pub is_in : ℕ → List ℕ → Bool
is_in n [] = false
is_in n (x ∷ xs) = eqb n x || is_in n xs

-- The arrivals at this clock, in the order of the tasks given.
unfoldable pub arriving_at : ℕ → List Arrivals → List Call
arriving_at clock [] = []
arriving_at clock (a ∷ others) =
    cond (is_in clock a.clocks) (arrival a.task ∷ arriving_at clock others) (arriving_at clock others)

-- The calls from clock 0 on, with so many ticks, all at full times: before each tick the arrivals at its clock.
unfoldable pub at_full_times : Table → ℕ → List Arrivals → List Call
at_full_times T ticks arrivals =
    joined ticks (λ clock. arriving_at clock arrivals ++ (clock_tick (full_times T) ∷ []))
