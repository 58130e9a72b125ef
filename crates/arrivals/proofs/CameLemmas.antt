-- What arrive comes to, answer by answer.
use Rattle.std.specs.Prelude.{ℕ, pred, ◌+◌, ◌-◌, ◌≤◌, ◌<◌, ◌≡◌, refl, true, false, ◌&&◌, leb, length}
use Rattle.std.proofs.Common.{sym, ◌∙◌, ap, arith, lt-ltb, le-ltb}
use Rattle.table.specs.Table.{Table, at, first_row, rows, is_plan}
use Rattle.table.specs.TableLaws.{checked}
use Rattle.table.specs.Plan.{plan_of}
use Rattle.table.specs.PlanLaws.{first_row_suc}
use Rattle.table.specs.declared.refusal.Refusal.TheVariants.{NotAPlan, NoSuchTask, TooSoon, StateDoesNotFit}
use Rattle.planned.specs.ViewLaws.{Inside, inside_period}
use Rattle.guards.specs.declared.state.State.{State}
use Rattle.guards.specs.Arrival.{Arriving, arrived_at}
use Rattle.guards.specs.ArrivalLaws.{task_in_range, less_one, first_row_below, arriving}
use Rattle.guards.specs.Calls.{refused, taken, has_task, arrive}
use Rattle.guards.specs.Lent.{on_lists, refused_at}
use Rattle.guards.specs.LentLaws.{held_long}
use Rattle.guards.specs.LentCalls.{fits_held, fits_fits, held_when_fits_held, arrive_none, arrive_unfit, arrive_no_task, arrive_made}
use Rattle.guards.specs.Stored.{with_guard, with_released}
use Rattle.arrivals.specs.Allowed.{Allowed}

-- The place of a task of the plan and its first row.
pub record Here (T : Table) (σ : State) (task place row : ℕ) : Type 0 where
  pub row_is : row ≡ first_row T (pred task)
  pub below : first_row T (pred task) < rows T
  pub place_below : place < T.tasks
  pub period_long : place < length T.period
  pub period_is : at T.period place ≡ (plan_of T).period (first_row T (pred task))
  pub at_row : Arriving row (at T.period place) σ.clock σ.released σ.guard

module _ (T : Table) (σ : State) (task : ℕ) where
  pub came_none : is_plan T ≡ false → refused NotAPlan σ ≡ on_lists T σ (arrive T σ task)
  came_none p = arrive_none T σ task {o = refused_at NotAPlan σ.clock} refl p

  pub came_unfit : is_plan T ≡ true → fits_held T σ ≡ false → refused StateDoesNotFit σ ≡ on_lists T σ (arrive T σ task)
  came_unfit p f = arrive_unfit T σ task {o = refused_at StateDoesNotFit σ.clock} refl p f

  module _ (p : is_plan T ≡ true) (f : fits_held T σ ≡ true) where
    pub came_no_task : leb 1 task && leb task T.tasks ≡ false → refused (NoSuchTask task) σ ≡ on_lists T σ (arrive T σ task)
    unfolding has_task
    came_no_task n = arrive_no_task T σ task p f {o = refused_at (NoSuchTask task) σ.clock} refl n

    module _ (n : leb 1 task && leb task T.tasks ≡ true) (row : ℕ) (e : row ≡ first_row T (task - 1)) where
      pub here : Here T σ task (task - 1) row
      here =
          let ok = checked T p in
          let r = task_in_range T.tasks task n in
          let b : first_row T (pred task) < rows T = first_row_below T ok task r.0 r.1 in
          let k : row ≡ first_row T (pred task) = e ∙ ap (first_row T) (less_one task) in
          let l : task - 1 < T.tasks = omega (arith, r.0, r.1) in
          let s : 1 ≤ at T.steps (task - 1) = (ok.tasks.each (task - 1) l).steps_least in
          let i : Inside T (task - 1) row row = record { task_is = l; start_is = e; of = record { from = omega (arith, e); to = omega (arith, e, first_row_suc T (task - 1)) } } in
          let q : at T.period (task - 1) ≡ (plan_of T).period (first_row T (pred task)) = sym (inside_period T i) ∙ ap (plan_of T).period k in
          record {
            row_is = k;
            below = b;
            place_below = l;
            period_long = omega (arith, ok.tasks.long.one);
            period_is = q;
            at_row = rw (k, q) (arriving T ok σ (held_long (rows T) σ (held_when_fits_held T σ f)) (fits_fits T σ f) (first_row T (pred task)) b);
          }

      pub came_soon : σ.clock < at σ.guard row → refused (TooSoon (at σ.guard row)) σ ≡ on_lists T σ (arrive T σ task)
      unfolding arrived_at has_task
      came_soon l =
          arrive_made T σ task p f n here.below
          (ap (λ (r : ℕ). refused (TooSoon (at σ.guard r)) σ) here.row_is
          ∙ rw (lt-ltb σ.clock (at σ.guard (first_row T (pred task))) (omega (arith, ap (at σ.guard) here.row_is))))

      pub came_taken :
          at σ.guard row ≤ σ.clock
          → taken (row + 1) (with_guard (with_released σ row (at σ.released row + 1)) row (σ.clock + at T.period (task - 1)))
          ≡ on_lists T σ (arrive T σ task)
      unfolding arrived_at has_task
      came_taken l =
          arrive_made T σ task p f n here.below
          (rw (here.row_is, here.period_is, le-ltb σ.clock (at σ.guard (first_row T (pred task))) (omega (arith, ap (at σ.guard) here.row_is))))

-- Where an instance is allowed, its row has its place.
pub here_allowed : (T : Table) (σ : State) (task row : ℕ) → Allowed T σ task row → Here T σ task (task - 1) row
here_allowed T σ task row a = here T σ task a.plan a.fits a.task_is row a.row_is
