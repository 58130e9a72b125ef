-- The whole outcome of each call: the answer, the state and the release list as they then are (document 01, "Guards" and
-- "Numbers that say no").
use Rattle.std.specs.Prelude.{ℕ, suc, pred, ◌+◌, Bool, cond, not, ◌&&◌, ◌||◌, List, leb, ltb, eqb, length, get_or, Err, Ok}
use Rattle.facts.specs.Tests.{lowest}
use Rattle.facts.specs.Filled.{filled}
use Rattle.table.specs.Table.{Table, first_row, rows, is_plan}
use Rattle.table.specs.Plan.{Plan, plan_of}
use Rattle.table.specs.Refusals.{last_clock}
use Rattle.table.specs.declared.refusal.Refusal.{Refusal}
use Rattle.table.specs.declared.refusal.Refusal.TheVariants.{
  NotAPlan,
  TooShort,
  NoSuchTask,
  TooSoon,
  WrongDoneLength,
  WrongDoneByte,
  TimeUsedUp,
  ClockAtEnd,
  StateDoesNotFit,
}
use Rattle.guards.specs.declared.state.State.{State}
use Rattle.guards.specs.Outcome.{Outcome}
use Rattle.guards.specs.Moment.{Moment, moment_of, state_with}
use Rattle.guards.specs.Running.{running}
use Rattle.guards.specs.Machine.{start, arrived, before_release, due, ticked}
use Rattle.guards.specs.Fits.{fits}

-- A call is refused, and the state stays.
abbrev pub refused : Refusal → State → Outcome
refused refusal σ = record { answer = Err refusal; state = σ }

-- A call is taken, with its answer and the state after it.
abbrev pub taken : ℕ → State → Outcome
taken answer σ = record { answer = Ok answer; state = σ }

-- Fresh start: 5; it sets the clock and the plan's rows to 0 and answers 0.
unfoldable pub fresh_start : Table → State → Outcome
fresh_start T σ =
    cond (not (is_plan T)) (refused NotAPlan σ)
    (taken 0 (state_with (rows T) start σ))

-- Task number i from 1 is one of the table's.
unfoldable pub has_task : Table → ℕ → Bool
has_task T task = leb 1 task && leb task T.tasks

-- Arrive: 5, 14, 8, 9; allowed if the clock is at least the guard of the chain's first row; it answers the row's number.
unfoldable pub arrive : Table → State → ℕ → Outcome
arrive T σ task =
    cond (not (is_plan T)) (refused NotAPlan σ)
    (cond (not (fits (plan_of T) (moment_of σ))) (refused StateDoesNotFit σ)
    (cond (not (has_task T task)) (refused (NoSuchTask task) σ)
    (cond (ltb σ.clock ((moment_of σ).guard (first_row T (pred task))))
    (refused (TooSoon ((moment_of σ).guard (first_row T (pred task)))) σ)
    (taken (first_row T (pred task) + 1) (state_with (rows T) (arrived (plan_of T) (moment_of σ) (first_row T (pred task))) σ)))))

-- The done list, one byte for each processor from 1: 1 means that the running instance ends with this tick.
unfoldable pub is_done : List ℕ → ℕ → Bool
is_done done processor = eqb (get_or done (pred processor) 0) 1

-- 11 at the processor of place i from 0: its done byte is above 1, or 1 where nothing runs.
unfoldable pub wrong_done : Plan → Moment → List ℕ → ℕ → Bool
wrong_done P m done i =
    ltb 1 (get_or done i 0) || (eqb (get_or done i 0) 1 && eqb (running P m (suc i)) 0)

-- 12 at the processor of place i from 0: its running instance has used all but one tick of its time and done is 0.
unfoldable pub used_up : Plan → Moment → List ℕ → ℕ → Bool
used_up P m done i =
    eqb (get_or done i 0) 0
    && (ltb 0 (running P m (suc i)) && eqb (m.used (pred (running P m (suc i))) + 1) (P.cost (pred (running P m (suc i)))))

-- The byte of row r in the release list: 1 if step 5 releases it.
unfoldable pub released_byte : Table → State → List ℕ → ℕ → ℕ
released_byte T σ done r = cond (due (plan_of T) (before_release (plan_of T) (moment_of σ) (is_done done)) r) 1 0

-- A tick's answer and state with the release list.
pub record TickOutcome : Type 0 where
  pub outcome : Outcome
  pub released : List ℕ

-- A tick is refused, and state and list stay.
abbrev pub stays : Refusal → State → List ℕ → TickOutcome
stays refusal σ released = record { outcome = refused refusal σ; released = released }

-- Tick: 5, 14, 10, 7, 13, 11, 12; steps 1 to 5; the release list has 1 for each row that step 5 released and 0 for every
-- other row, and bytes past the rows stay; the answer is the new clock.
unfoldable pub tick : Table → State → List ℕ → List ℕ → TickOutcome
tick T σ done released =
    cond (not (is_plan T)) (stays NotAPlan σ released)
    (cond (not (fits (plan_of T) (moment_of σ))) (stays StateDoesNotFit σ released)
    (cond (not (eqb (length done) T.processors)) (stays (WrongDoneLength T.processors) σ released)
    (cond (ltb (length released) (rows T)) (stays (TooShort (rows T)) σ released)
    (cond (eqb σ.clock last_clock) (stays ClockAtEnd σ released)
    (cond (ltb (lowest T.processors (wrong_done (plan_of T) (moment_of σ) done)) T.processors)
    (stays (WrongDoneByte (lowest T.processors (wrong_done (plan_of T) (moment_of σ) done) + 1)) σ released)
    (cond (ltb (lowest T.processors (used_up (plan_of T) (moment_of σ) done)) T.processors)
    (stays (TimeUsedUp (lowest T.processors (used_up (plan_of T) (moment_of σ) done) + 1)) σ released)
    (record {
      outcome = taken (σ.clock + 1) (state_with (rows T) (ticked (plan_of T) (moment_of σ) (is_done done)) σ);
      released = filled (released_byte T σ done) (rows T) released;
    })))))))
