-- A fresh start fits the plan, and every call, taken or refused, leaves a state that fits where it found one.
use Prim.Native.Nat.{ℕ, pred}
use Rattle.std.specs.Prelude.{◌≡◌, List}
use Rattle.std.proofs.Math.Bool.{true}
use Rattle.table.specs.Table.{Table, first_row, rows, is_plan}
use Rattle.table.specs.TableLaws.{checked}
use Rattle.table.specs.Plan.{plan_of}
use Rattle.table.specs.PlanLaws.{Right, right_of}
use Rattle.guards.specs.declared.state.State.{State}
use Rattle.guards.specs.Outcome.{Outcome}
use Rattle.guards.specs.Moment.{Moment, moment_of, state_with}
use Rattle.guards.specs.Machine.{start, arrived, ticked}
use Rattle.guards.specs.Fits.{fits}
use Rattle.guards.specs.SeamLaws.{arrived_is, ticked_is}
use Rattle.guards.specs.FitsLaws.{Fits, fits_of, fits_true}
use Rattle.guards.specs.FitsKept.{fits_start, fits_arrived, fits_ticked, fits_same}
use Rattle.guards.specs.Calls.{fresh_start, arrive, is_done, TickOutcome, tick}
use Rattle.guards.specs.TakenLaws.{with_same, task_first, Arriving, arrive_is, Ticking, tick_is}

-- A fresh start of a plan is taken: the state has the plan's rows at their start.
pub fresh_start_is : (T : Table) (σ : State) → is_plan T ≡ true → (fresh_start T σ).state ≡ state_with (rows T) start σ
unfolding fresh_start
fresh_start_is T σ e = rw e

module _ (T : Table) (plan : is_plan T ≡ true) where
  right : Right (plan_of T)
  right = right_of T (checked T plan)

  -- The state whose rows are as m says fits where m does.
  with_fits : (m : Moment) (σ : State) → Fits (plan_of T) m → fits (plan_of T) (moment_of (state_with (rows T) m σ)) ≡ true
  unfolding plan_of
  with_fits m σ f = fits_true (plan_of T) _ (fits_same right (with_same (plan_of T) m σ) f)

  pub fresh_start_fits : (σ : State) → fits (plan_of T) (moment_of (fresh_start T σ).state) ≡ true
  fresh_start_fits σ = rw (fresh_start_is T σ plan) (with_fits start σ (fits_start right))

  module _ (σ : State) (fitting : fits (plan_of T) (moment_of σ) ≡ true) where
    pub arrive_fits : (task : ℕ) → fits (plan_of T) (moment_of (arrive T σ task).state) ≡ true
    unfolding moment_of
    arrive_fits task = go (arrive_is T σ task)
      where
        go : {o : Outcome} → Arriving T σ task o → fits (plan_of T) (moment_of o.state) ≡ true
        go (Arriving.refused why) = fitting
        go (Arriving.taken may) =
            let f : ℕ = first_row T (pred task) in
            with_fits (arrived (plan_of T) (moment_of σ) f) σ
            (fits_arrived right (fits_of _ _ fitting) (task_first T (checked T plan) (pred task) may.known).1 may.guard_due (arrived_is (plan_of T) (moment_of σ) f))

    pub tick_fits : (done released : List ℕ) → fits (plan_of T) (moment_of (tick T σ done released).outcome.state) ≡ true
    unfolding moment_of
    tick_fits done released = go (tick_is T σ done released)
      where
        go : {o : TickOutcome} → Ticking T σ done released o → fits (plan_of T) (moment_of o.outcome.state) ≡ true
        go (Ticking.refused why) = fitting
        go (Ticking.taken may) =
            with_fits (ticked (plan_of T) (moment_of σ) (is_done done)) σ
            (fits_ticked right (fits_of _ _ fitting) (ticked_is (plan_of T) (moment_of σ) (is_done done) may.allowed) may.goes_on)
