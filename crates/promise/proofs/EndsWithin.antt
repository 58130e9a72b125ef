-- Every instance of a task ends within the sum of its rows' safe bounds.
use Rattle.std.specs.Prelude.{ℕ, suc, pred, ◌+◌, ◌≤◌, ◌<◌, ◌≡◌, refl, true, false, List}
use Rattle.std.proofs.Common.{◌∙◌, arith, ne_eqb}
use Rattle.facts.specs.Sums.{sum}
use Rattle.facts.specs.TestsLaws.{clash}
use Rattle.table.specs.Table.{Table, at, first_row, rows, is_plan}
use Rattle.table.specs.TableLaws.{Checked, checked}
use Rattle.table.specs.Plan.{plan_of}
use Rattle.table.specs.PlanLaws.{right_of, first_row_suc, first_row_mono}
use Rattle.planned.specs.ViewLaws.{inside_first}
use Rattle.guards.specs.declared.state.State.{State}
use Rattle.guards.specs.Outcome.{Outcome}
use Rattle.guards.specs.Moment.{Moment, moment_of, state_with}
use Rattle.guards.specs.Machine.{start, arrived}
use Rattle.guards.specs.SeamLaws.{arrived_is}
use Rattle.guards.specs.Calls.{fresh_start}
use Rattle.guards.specs.TakenLaws.{with_same, task_first, MayArrive, Arriving, arrive_is}
use Rattle.equations.specs.Safe.{Safe}
use Rattle.promise.specs.Chain.{Chain}
use Rattle.promise.specs.Runs.{Next}
use Rattle.promise.specs.Later.{Later}
use Rattle.promise.proofs.Later.{later_later, release_ends}
use Rattle.promise.specs.Promise.{Call, is_taken, after, ticks_taken, last_row, EndsWithin}
use Rattle.promise.specs.Played.{Played}
use Rattle.promise.proofs.Played.{fresh_later, arrival_next, calls_played}

last_row_is : (T : Table) (i : ℕ) → last_row T i ≡ pred (first_row T (suc i))
unfolding last_row
last_row_is T i = refl

-- The rows of a task are a chain, from its first row to its last.
task_chain :
    (T : Table) → Checked T → (i : ℕ) → i < T.tasks
    → Chain (plan_of T) (first_row T i) (pred (at T.steps i)) × (last_row T i ≡ first_row T i + pred (at T.steps i))
unfolding plan_of rows
task_chain T ok i l =
    let s : 1 ≤ at T.steps i = (ok.tasks.each i l).steps_least in (
      record {
        inside = omega (arith, first_row_suc T i, first_row_mono T (suc i) T.tasks l);
        starts = (task_first T ok i l).1;
        goes_on = λ j d. later j d;
      },
      omega (arith, first_row_suc T i, last_row_is T i),
    )
  where
    later : (j : ℕ) → j < pred (at T.steps i) → (plan_of T).first (suc (first_row T i + j)) ≡ false
    later j d =
        inside_first T {task = i} {start = first_row T i} {row = suc (first_row T i + j)}
        (record { task_is = l; start_is = refl; of = record { from = omega arith; to = omega (arith, first_row_suc T i) } })
        ∙ ne_eqb (first_row T i) (suc (first_row T i + j)) (λ e. omega arith)

module _ (T : Table) (plan : is_plan T ≡ true) {R : ℕ → ℕ} (safe : (r : ℕ) → r < rows T → Safe (plan_of T) r (R r)) where
  -- From a state of a run, an arrival that may be taken, and any calls after it.
  arrival_ends :
      (σ : State) → Later (plan_of T) start (moment_of σ) → (task : ℕ) → MayArrive T σ task → (afterwards : List Call)
      → let left = state_with (rows T) (arrived (plan_of T) (moment_of σ) (first_row T (pred task))) σ in
      sum (at T.steps (pred task)) (λ j. R (first_row T (pred task) + j)) ≤ ticks_taken T left afterwards
      → at left.released (first_row T (pred task)) ≤ at (after T left afterwards).completed (last_row T (pred task))
  unfolding plan_of moment_of state_with arrived
  arrival_ends σ u task may afterwards late =
      rw (chain.1, (with_same (plan_of T) m σ).released f first.0)
      (release_ends (right_of T ok) safe f (pred (at T.steps i)) chain.0 u (arrival_next T plan σ task may)
      (arrived_is (plan_of T) (moment_of σ) f).here.0 (later_later written played.later) in_time)
    where
      ok : Checked T
      ok = checked T plan

      i : ℕ
      i = pred task

      f : ℕ
      f = first_row T i

      m : Moment
      m = arrived (plan_of T) (moment_of σ) f

      left : State
      left = state_with (rows T) m σ

      first : (f < rows T) × ((plan_of T).first f ≡ true)
      first = task_first T ok i may.known

      chain : Chain (plan_of T) f (pred (at T.steps i)) × (last_row T i ≡ f + pred (at T.steps i))
      chain = task_chain T ok i may.known

      written : Later (plan_of T) m (moment_of left)
      written = Later.then Later.now (Next.rewrites (with_same (plan_of T) m σ))

      played : Played T left (after T left afterwards) (ticks_taken T left afterwards)
      played = calls_played T plan left afterwards

      all_steps : suc (pred (at T.steps i)) ≡ at T.steps i
      all_steps = omega (arith, (ok.tasks.each i may.known).steps_least)

      in_time : m.clock + sum (suc (pred (at T.steps i))) (λ j. R (f + j)) ≤ (after T left afterwards).clock
      in_time = rw all_steps (omega (arith, played.clock))

  pub ends_within :
      (task ticks : ℕ)
      → (pred task < T.tasks → sum (at T.steps (pred task)) (λ j. R (first_row T (pred task) + j)) ≤ ticks)
      → EndsWithin T task ticks
  unfolding is_taken
  ends_within task ticks enough any before afterwards taken late = go (arrive_is T found task) taken (omega arith)
    where
      found : State
      found = after T (fresh_start T any).state before

      reached : Later (plan_of T) start (moment_of found)
      reached = later_later (fresh_later T plan any) (calls_played T plan (fresh_start T any).state before).later

      go :
          {o : Outcome} → Arriving T found task o → is_taken o.answer ≡ true → ticks ≤ ticks_taken T o.state afterwards
          → at o.state.released (first_row T (pred task)) ≤ at (after T o.state afterwards).completed (last_row T (pred task))
      go (Arriving.refused why) e late = absurd (clash e refl)
      go (Arriving.taken may) e late = arrival_ends found reached task may afterwards (omega (arith, enough may.known))
