-- What is promised of every run (demand 3): the calls of a run, the state after them and the ticks among them, in the very
-- outcomes that the contracts of the guards name.
use Rattle.std.specs.Prelude.{ℕ, suc, pred, ◌+◌, ◌≤◌, ◌≡◌, Bool, true, false, cond, List, [], ◌∷◌, Err, Ok, Result}
use Rattle.table.specs.declared.refusal.Refusal.{Refusal}
use Rattle.table.specs.Table.{Table, at, first_row}
use Rattle.table.specs.Plan.{in_force}
use Rattle.bounds.specs.Bounds.{Lists, needed, Bounding}
use Rattle.bounds.specs.NoHarder.{NoLarger}
use Rattle.guards.specs.declared.state.State.{State}
use Rattle.guards.specs.Outcome.{Outcome}
use Rattle.guards.specs.Calls.{fresh_start, arrive, tick}

-- A call: the arrival of a task, by its number; or a tick with its done list and the release list lent to it.
pub data Call : Type 0 where
  arrival : ℕ → Call
  clock_tick : List ℕ → List ℕ → Call

-- What a call comes to: its answer, and the state after it.
unfoldable pub outcome_of : Table → State → Call → Outcome
outcome_of T σ (arrival task) = arrive T σ task
outcome_of T σ (clock_tick done released) = (tick T σ done released).outcome

-- The answer is not a refusal.
unfoldable pub is_taken : Result ℕ Refusal → Bool
is_taken (Ok number) = true
is_taken (Err refusal) = false

-- The state after a list of calls, refused ones included.
unfoldable pub after : Table → State → List Call → State
after T σ [] = σ
after T σ (call ∷ calls) = after T (outcome_of T σ call).state calls

-- 1 for a tick that is taken, and 0 for any other call.
unfoldable pub ticks_by : Table → State → Call → ℕ
ticks_by T σ (arrival task) = 0
ticks_by T σ (clock_tick done released) = cond (is_taken (tick T σ done released).outcome.answer) 1 0

-- The number of ticks taken in a list of calls.
unfoldable pub ticks_taken : Table → State → List Call → ℕ
ticks_taken T σ [] = 0
ticks_taken T σ (call ∷ calls) = ticks_by T σ call + ticks_taken T (outcome_of T σ call).state calls

-- The last row of task i, counted from 0.
unfoldable pub last_row : Table → ℕ → ℕ
last_row T i = pred (first_row T (suc i))

-- Every instance of the task, by its number, ends within so many ticks. Start afresh on any state, make any calls, and let
-- an arrival of the task be taken; make any calls again. Once so many ticks have been taken among them, the chain's last
-- row has completed as many instances as its first row had released at the arrival.
abbrev pub EndsWithin : Table → ℕ → ℕ → Type 0
EndsWithin T task ticks =
    (any : State) (before afterwards : List Call)
    → let found = after T (fresh_start T any).state before in
    let left = (arrive T found task).state in
    is_taken (arrive T found task).answer ≡ true → ticks ≤ ticks_taken T left afterwards
    → at left.released (first_row T (pred task)) ≤ at (after T left afterwards).completed (last_row T (pred task))

-- Demand 3 for two tables: Q is no harder than P, whose bounds are given, and stand in these lists with this answer.
pub record Promised (P Q : Table) (lists : Lists) (answer : ℕ) : Type 0 where
  -- The first half: on lists that are long enough Q's bounds are given too, none larger and no slack smaller, and Q is
  -- accepted if P is.
  pub no_larger :
      (before after : Lists) → needed Q before ≡ 0 → (outcome : Result ℕ Refusal) → Bounding Q before after outcome
      → (own : ℕ) × (outcome ≡ Ok own) × NoLarger P lists after × (answer ≡ 1 → own ≡ 1)
  -- The second half: every instance of a task of Q ends within the bound of P's chain.
  pub in_time : (task : ℕ) → EndsWithin Q task (at lists.chain (pred task))
  -- So where P is accepted, every instance of a task of Q ends within its deadline in force.
  pub by_deadline : answer ≡ 1 → (task : ℕ) → EndsWithin Q task (in_force Q (pred task))
