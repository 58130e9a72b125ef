-- A list of calls is a run of the machine, and its ticks are counted by the clock.
use Prim.Native.Nat.{ℕ, pred, ◌+◌, ◌<◌}
use Rattle.std.specs.Prelude.{◌≡◌, true, cond}
use mathlib.Core.List.{List, [], ◌∷◌}
use native.Mathlib.Omega.{arith}
use Rattle.table.specs.Table.{Table, first_row, rows, is_plan}
use Rattle.table.specs.TableLaws.{checked}
use Rattle.table.specs.Plan.{plan_of}
use Rattle.guards.specs.declared.state.State.{State}
use Rattle.guards.specs.Outcome.{Outcome}
use Rattle.guards.specs.Moment.{Moment, moment_of, state_with}
use Rattle.guards.specs.Machine.{start, arrived, ticked, before_release, let_go, opened, worked}
use Rattle.guards.specs.SeamLaws.{arrived_is, ticked_is}
use Rattle.guards.specs.Calls.{fresh_start, is_done, TickOutcome}
use Rattle.guards.specs.TakenLaws.{with_same, task_first, MayArrive, Arriving, arrive_is, Ticking, tick_is}
use Rattle.guards.specs.CallsFit.{fresh_start_is}
use Rattle.promise.specs.Promise.{Call, outcome_of, is_taken, after, ticks_by, ticks_taken}
use Rattle.promise.specs.Runs.{Next}
use Rattle.promise.specs.Later.{Later}
use Rattle.promise.proofs.Later.{later_later}
use Rattle.promise.specs.Played.{Played}

module _ (T : Table) (plan : is_plan T ≡ true) where
  -- The machine has come from σ to the moment m, and the state is written so.
  pub written :
      (σ : State) (m : Moment) → Later (plan_of T) (moment_of σ) m
      → Later (plan_of T) (moment_of σ) (moment_of (state_with (rows T) m σ))
  unfolding plan_of
  written σ m u = Later.then u (Next.rewrites (with_same (plan_of T) m σ))

  pub fresh_later : (σ : State) → Later (plan_of T) start (moment_of (fresh_start T σ).state)
  unfolding plan_of
  fresh_later σ = rw (fresh_start_is T σ plan) (Later.then Later.now (Next.rewrites (with_same (plan_of T) start σ)))

  -- The step of an arrival that is taken.
  pub arrival_next :
      (σ : State) (task : ℕ) → MayArrive T σ task
      → Next (plan_of T) (moment_of σ) (arrived (plan_of T) (moment_of σ) (first_row T (pred task)))
  unfolding plan_of moment_of
  arrival_next σ task may =
      let f : ℕ = first_row T (pred task) in
      let first : (f < rows T) × ((plan_of T).first f ≡ true) = task_first T (checked T plan) (pred task) may.known in
      Next.arrives f first.0 first.1 may.guard_due (arrived_is (plan_of T) (moment_of σ) f)

  call_played : (σ : State) (call : Call) → Played T σ (outcome_of T σ call).state (ticks_by T σ call)
  unfolding outcome_of ticks_by is_taken moment_of state_with arrived ticked before_release let_go opened worked
  call_played σ (Call.arrival task) = go (arrive_is T σ task)
    where
      go : {o : Outcome} → Arriving T σ task o → Played T σ o.state 0
      go (Arriving.refused why) = record { later = Later.now; clock = omega arith }
      go (Arriving.taken may) = record {
        later = written σ _ (Later.then Later.now (arrival_next σ task may));
        clock = omega arith;
      }
  call_played σ (Call.clock_tick done released) = go (tick_is T σ done released)
    where
      go : {o : TickOutcome} → Ticking T σ done released o → Played T σ o.outcome.state (cond (is_taken o.outcome.answer) 1 0)
      go (Ticking.refused why) = record { later = Later.now; clock = omega arith }
      go (Ticking.taken may) = record {
        later =
            written σ _
            (Later.then Later.now (Next.ticks may.goes_on (ticked_is (plan_of T) (moment_of σ) (is_done done) may.allowed)));
        clock = omega arith;
      }

  pub calls_played : (σ : State) (calls : List Call) → Played T σ (after T σ calls) (ticks_taken T σ calls)
  unfolding after ticks_taken
  calls_played σ [] = record { later = Later.now; clock = omega arith }
  calls_played σ (call ∷ calls) = go (call_played σ call) (calls_played (outcome_of T σ call).state calls)
    where
      next : State
      next = (outcome_of T σ call).state

      go :
          Played T σ next (ticks_by T σ call) → Played T next (after T next calls) (ticks_taken T next calls)
          → Played T σ (after T next calls) (ticks_by T σ call + ticks_taken T next calls)
      go a b = record { later = later_later a.later b.later; clock = omega (arith, a.clock, b.clock) }
