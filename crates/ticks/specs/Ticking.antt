-- A tick of a plan's rows, part by part.
use Rattle.std.specs.Prelude.{ℕ, ◌+◌, ◌≤◌, ◌<◌, ◌≡◌, cond, not, List, ltb, eqb, length}
use Rattle.facts.specs.Tests.{lowest}
use Rattle.facts.specs.Filled.{filled}
use Rattle.table.specs.Table.{at}
use Rattle.table.specs.Plan.{Plan}
use Rattle.table.specs.Refusals.{last_clock}
use Rattle.table.specs.declared.refusal.Refusal.TheVariants.{TooShort, WrongDoneLength, WrongDoneByte, TimeUsedUp, ClockAtEnd, StateDoesNotFit}
use Rattle.guards.specs.declared.state.State.{State}
use Rattle.guards.specs.Outcome.{Outcome}
use Rattle.guards.specs.Moment.{moment_of, state_with}
use Rattle.guards.specs.Machine.{before_release, due, ticked}
use Rattle.guards.specs.Rows.{Rows, plan_from}
use Rattle.guards.specs.BoundsLaws.{Bounded}
use Rattle.guards.specs.Lent.{Long, rows_fit_in}
use Rattle.guards.specs.Calls.{TickOutcome, is_done, stays, taken, used_up, wrong_done}

-- What a tick knows of a plan's rows,
pub record Listed (R : Rows) (processors : ℕ) (processor priority time : List ℕ) : Type 0 where
  pub some : 0 < R.count
  pub few : R.count ≤ 128
  pub period_long : R.count ≤ length R.period
  pub first_long : R.count ≤ length R.first
  pub processor_long : R.count ≤ length processor
  pub priority_long : R.count ≤ length priority
  pub time_long : R.count ≤ length time
  pub processors_most : processors ≤ 16
  pub processor_least : (r : ℕ) → r < R.count → 1 ≤ at processor r
  pub processor_most : (r : ℕ) → r < R.count → at processor r ≤ processors
  pub period_most : (r : ℕ) → r < R.count → at R.period r ≤ 1000000
  pub time_most : (r : ℕ) → r < R.count → at time r ≤ 1000000

-- of a state that fits them,
pub record Ready (R : Rows) (processors : ℕ) (processor priority time : List ℕ) (σ : State) : Type 0 where
  pub listed : Listed R processors processor priority time
  pub long : Long R.count σ
  pub bounded : Bounded (plan_from R.count R.period R.first processor priority time) (moment_of σ)

-- and that the done list and the release list are right.
pub record Going (R : Rows) (processors : ℕ) (processor priority time : List ℕ) (σ : State) (done released : List ℕ) : Type 0 where
  pub ready : Ready R processors processor priority time σ
  pub done_long : length done ≡ processors
  pub released_long : R.count ≤ length released

-- An outcome with the release list.
abbrev pub told : List ℕ → Outcome → TickOutcome
told released outcome = record { outcome = outcome; released = released }

-- 11, 12, and the steps.
unfoldable pub done_tick : ℕ → Plan → State → List ℕ → List ℕ → TickOutcome
done_tick processors P σ done released =
    cond (ltb (lowest processors (wrong_done P (moment_of σ) done)) processors)
    (stays (WrongDoneByte (lowest processors (wrong_done P (moment_of σ) done) + 1)) σ released)
    (cond (ltb (lowest processors (used_up P (moment_of σ) done)) processors)
    (stays (TimeUsedUp (lowest processors (used_up P (moment_of σ) done) + 1)) σ released)
    (record {
      outcome = taken (σ.clock + 1) (state_with P.rows (ticked P (moment_of σ) (is_done done)) σ);
      released = filled (λ r. cond (due P (before_release P (moment_of σ) (is_done done)) r) 1 0) P.rows released;
    }))

-- 13 before it,
unfoldable pub clock_tick : ℕ → Plan → State → List ℕ → List ℕ → TickOutcome
clock_tick processors P σ done released =
    cond (eqb σ.clock last_clock) (stays ClockAtEnd σ released) (done_tick processors P σ done released)

-- 10 and 7 before that,
unfoldable pub open_tick : ℕ → Plan → State → List ℕ → List ℕ → TickOutcome
open_tick processors P σ done released =
    cond (not (eqb (length done) processors)) (stays (WrongDoneLength processors) σ released)
    (cond (ltb (length released) P.rows) (stays (TooShort P.rows) σ released)
    (clock_tick processors P σ done released))

-- and 14 first.
unfoldable pub rows_tick : ℕ → Rows → List ℕ → List ℕ → List ℕ → State → List ℕ → List ℕ → TickOutcome
rows_tick processors R processor priority time σ done released =
    cond (rows_fit_in R time σ)
    (open_tick processors (plan_from R.count R.period R.first processor priority time) σ done released)
    (stays StateDoesNotFit σ released)
