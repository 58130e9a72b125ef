-- What the parts of a tick read and do.
use Rattle.std.specs.Prelude.{ℕ, suc, ◌+◌, ◌≤◌, ◌<◌, Bool, false, cond, not, ◌&&◌, List, [], eqb, length, get_or}
use Rattle.table.specs.Table.{at}
use Rattle.table.specs.Plan.{Plan}
use Rattle.table.specs.Refusals.{last_clock}
use Rattle.guards.specs.declared.state.State.{State}
use Rattle.guards.specs.Moment.{Moment, moment_of}
use Rattle.guards.specs.Machine.{opened, let_go}
use Rattle.guards.specs.Rows.{Rows, plan_from}
use Rattle.guards.specs.Calls.{is_done}
use Rattle.guards.specs.Lent.{Long}

-- The rows are few, each has its processor, and no processor has a number above 16.
pub record Placed (rows : ℕ) (processor : List ℕ) : Type 0 where
  pub few : rows ≤ 128
  pub processor_long : rows ≤ length processor
  pub processor_most : (r : ℕ) → r < rows → at processor r ≤ 16

-- What steps 1 to 3 read: of each row its processor, and of each processor its running row and its done byte; and the
-- numbers that they move on are small.
pub record Working (rows : ℕ) (processor running done completed used : List ℕ) : Type 0 where
  pub few : rows ≤ 128
  pub processor_long : rows ≤ length processor
  pub processor_least : (r : ℕ) → r < rows → 1 ≤ at processor r
  pub processor_most : (r : ℕ) → r < rows → at processor r ≤ length done
  pub running_long : length done < length running
  pub completed_long : rows ≤ length completed
  pub used_long : rows ≤ length used
  pub completed_most : (r : ℕ) → r < rows → at completed r ≤ last_clock + 1
  pub used_most : (r : ℕ) → r < rows → at used r ≤ 1000000

-- What a row has completed and used after them.
abbrev pub completed_in : (ℕ → Bool) → (ℕ → Bool) → List ℕ → ℕ → ℕ
completed_in runs ends completed r = cond (runs r && ends r) (at completed r + 1) (at completed r)

abbrev pub used_in : (ℕ → Bool) → (ℕ → Bool) → List ℕ → ℕ → ℕ
used_in runs ends used r = cond (runs r) (cond (ends r) 0 (at used r + 1)) (at used r)

-- Steps 1 to 3, given which rows run and which of them end.
unfoldable pub ran : (ℕ → Bool) → (ℕ → Bool) → Moment → Moment
ran runs ends m = record {
  clock = m.clock + 1;
  released = m.released;
  completed = λ r. cond (runs r && ends r) (m.completed r + 1) (m.completed r);
  used = λ r. cond (runs r) (cond (ends r) 0 (m.used r + 1)) (m.used r);
  guard = m.guard;
}

-- Row r runs by the list of running rows, counted from 1, and ends by the done list.
abbrev pub runs_in : List ℕ → List ℕ → ℕ → Bool
runs_in processor running r = eqb (at running (at processor r)) (suc r)

abbrev pub ends_in : List ℕ → List ℕ → ℕ → Bool
ends_in processor done r = is_done done (at processor r)

-- Step 4, given which rows are first and which have an idle processor.
unfoldable pub opened_where : (ℕ → Bool) → (ℕ → Bool) → Moment → Moment
opened_where first idle m = record {
  clock = m.clock;
  released = m.released;
  completed = m.completed;
  used = m.used;
  guard = λ r. cond (not (first r) && idle r) m.clock (m.guard r);
}

-- A row's guard after it.
abbrev pub guard_in : (ℕ → Bool) → (ℕ → Bool) → ℕ → List ℕ → ℕ → ℕ
guard_in first idle clock guard r = cond (not (first r) && idle r) clock (at guard r)

-- Row r is first by the list of first rows, and its processor is idle by the list of busy processors.
abbrev pub first_in : List Bool → ℕ → Bool
first_in first r = get_or first r false

abbrev pub idle_in : List ℕ → List Bool → ℕ → Bool
idle_in processor busy r = not (get_or busy (at processor r) false)

-- Each row has its entry in the lists that step 5 reads and its byte in the release list, and the numbers that it moves on
-- are small.
pub record Releasing (rows : ℕ) (period : List ℕ) (first : List Bool) (clock : ℕ) (released completed guard out : List ℕ) : Type 0 where
  pub some : 0 < rows
  pub few : rows ≤ 128
  pub period_long : rows ≤ length period
  pub first_long : rows ≤ length first
  pub released_long : rows ≤ length released
  pub completed_long : rows ≤ length completed
  pub guard_long : rows ≤ length guard
  pub out_long : rows ≤ length out
  pub clock_most : clock ≤ last_clock
  pub released_most : (r : ℕ) → r < rows → at released r ≤ last_clock + 1
  pub period_most : (r : ℕ) → r < rows → at period r ≤ 1000000

-- The plan as far as steps 4 and 5 read it.
abbrev pub chains : Rows → List ℕ → Plan
chains R processor = plan_from R.count R.period R.first processor [] []

-- The rows before step 5.
unfoldable pub readied : Rows → List ℕ → List ℕ → List ℕ → State → Moment
readied R processor running done σ =
    opened (chains R processor) (ran (runs_in processor running) (ends_in processor done) (moment_of σ))

-- The rows after it.
unfoldable pub stepped : Rows → List ℕ → List ℕ → List ℕ → State → Moment
stepped R processor running done σ = let_go (chains R processor) (readied R processor running done σ)

-- What all five steps read, and that the numbers that they move on are small.
pub record Stepping (R : Rows) (processor running done : List ℕ) (σ : State) (released : List ℕ) : Type 0 where
  pub some : 0 < R.count
  pub working : Working R.count processor running done σ.completed σ.used
  pub long : Long R.count σ
  pub period_long : R.count ≤ length R.period
  pub first_long : R.count ≤ length R.first
  pub placed : Placed R.count processor
  pub clock_below : σ.clock < last_clock
  pub released_most : (r : ℕ) → r < R.count → at σ.released r ≤ last_clock + 1
  pub period_most : (r : ℕ) → r < R.count → at R.period r ≤ 1000000
  pub released_long : R.count ≤ length released
