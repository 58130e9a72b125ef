-- A tick of a table's rows is a tick of its plan.
use Rattle.std.specs.Prelude.{ℕ, suc, ◌+◌, ◌<◌, ◌≡◌, Bool, not, ◌&&◌, List, ltb, eqb, length}
use Rattle.std.proofs.Math.Path.{refl, sym, ap}
use Rattle.std.proofs.Common.{◌∙◌, arith}
use Rattle.std.proofs.Math.Bool.{true, false, cond}
use Rattle.facts.specs.Tests.{lowest}
use Rattle.facts.specs.Filled.{filled}
use Rattle.facts.specs.FilledLaws.{filled_ext}
use Rattle.table.specs.Table.{Table, at, rows, is_plan}
use Rattle.table.specs.TableLaws.{Checked, checked}
use Rattle.table.specs.Plan.{Plan, plan_of, cost}
use Rattle.table.specs.PlanLaws.{small_of}
use Rattle.table.specs.Refusals.{last_clock}
use Rattle.table.specs.declared.refusal.Refusal.TheVariants.{NotAPlan, TooShort, WrongDoneLength, WrongDoneByte, TimeUsedUp, ClockAtEnd, StateDoesNotFit}
use Rattle.guards.specs.declared.state.State.{State}
use Rattle.guards.specs.Moment.{moment_of, state_with}
use Rattle.guards.specs.Running.{is_open, best, running, runs}
use Rattle.guards.specs.Machine.{worked, before_release, due, ticked}
use Rattle.guards.specs.Fits.{fits}
use Rattle.guards.specs.Rows.{Rows, plan_from}
use Rattle.guards.specs.Calls.{TickOutcome, is_done, released_byte, stays, taken, tick, used_up, wrong_done}
use Rattle.guards.specs.LentLaws.{held, rows_fit_lent, tick_lent_no_plan, tick_lent_short, tick_lent_held}
use Rattle.guards.specs.LentCalls.{fits_held, held_when_fits_held, fits_fits}
use Rattle.guards.specs.RowsLaws.{RowsOf}
use Rattle.guards.specs.Lent.{tick_on_lists}
use Rattle.ticks.specs.Ticking.{Listed, done_tick, clock_tick, open_tick, rows_tick}
use Rattle.ticks.specs.FoundLaws.{best_ext}
use Rattle.ticks.specs.TickingLaws.{lowest_ext}
use Rattle.ticks.specs.SameLaws.{Same, Chained, with_same, opened_same, due_same, let_go_same}

module _ {T : Table} {R : Rows} (o : RowsOf T R) where
  -- A tick knows what it needs of the rows.
  pub listing : Listed R T.processors T.processor T.priority T.time
  unfolding plan_of
  listing =
      let ok : Checked T = checked T o.plan in
      record {
        some = omega (arith, o.count, (small_of T ok).some);
        few = omega (arith, o.count, ok.rows_most);
        period_long = omega (arith, o.count, o.period_long);
        first_long = omega (arith, o.count, o.first_long);
        processor_long = omega (arith, o.count, ok.row_lists.one);
        priority_long = omega (arith, o.count, ok.row_lists.two);
        time_long = omega (arith, o.count, ok.row_lists.three);
        processors_most = ok.processors_most;
        processor_least = λ r l. (ok.row r (below r l)).processor_least;
        processor_most = λ r l. (ok.row r (below r l)).processor_most;
        period_most = λ r l. omega (arith, o.period r (below r l), (small_of T ok).period_most r (below r l));
        time_most = λ r l. (ok.row r (below r l)).time_most;
      }
    where
      below : (r : ℕ) → r < R.count → r < rows T
      below r l = omega (arith, o.count)

module _ {T : Table} {R : Rows} (o : RowsOf T R) (σ : State) where
  abbrev listed : Plan
  listed = plan_from R.count R.period R.first T.processor T.priority T.time

  -- The lists and the plan agree on the row that runs,
  running_same : (x : ℕ) → running listed (moment_of σ) x ≡ running (plan_of T) (moment_of σ) x
  unfolding running plan_of
  running_same x =
      best_ext listed (plan_of T) (λ r. refl) (λ r. refl) (is_open (moment_of σ)) (is_open (moment_of σ)) x R.count (λ r l. refl)
      ∙ ap (λ (n : ℕ). best (plan_of T) (is_open (moment_of σ)) x n) o.count

  -- on what is wrong with a done list,
  wrong_same : (n : ℕ) (done : List ℕ) → lowest n (wrong_done listed (moment_of σ) done) ≡ lowest n (wrong_done (plan_of T) (moment_of σ) done)
  unfolding wrong_done
  wrong_same n done = lowest_ext n (λ i l. rw (running_same (suc i)))

  up_same : (n : ℕ) (done : List ℕ) → lowest n (used_up listed (moment_of σ) done) ≡ lowest n (used_up (plan_of T) (moment_of σ) done)
  unfolding used_up plan_of cost
  up_same n done = lowest_ext n (λ i l. rw (running_same (suc i)))

  -- on what the steps make of the rows,
  worked_same : (done : List ℕ) → Same (rows T) (worked listed (moment_of σ) (is_done done)) (worked (plan_of T) (moment_of σ) (is_done done))
  unfolding worked runs plan_of
  worked_same done = record {
    clock = refl;
    released = λ r l. refl;
    completed = λ r l. rw (running_same (at T.processor r));
    used = λ r l. rw (running_same (at T.processor r));
    guard = λ r l. refl;
  }

  chained : Chained (rows T) listed (plan_of T)
  unfolding plan_of
  chained = record { left = o.count; right = refl; period = o.period; first = o.first; processor = λ r l. refl }

  before_same : (done : List ℕ) → Same (rows T) (before_release listed (moment_of σ) (is_done done)) (before_release (plan_of T) (moment_of σ) (is_done done))
  unfolding before_release
  before_same done = opened_same (worked_same done) chained

  state_same :
      (done : List ℕ)
      → state_with R.count (ticked listed (moment_of σ) (is_done done)) σ ≡ state_with (rows T) (ticked (plan_of T) (moment_of σ) (is_done done)) σ
  unfolding ticked
  state_same done =
      ap (λ (n : ℕ). state_with n (ticked listed (moment_of σ) (is_done done)) σ) o.count
      ∙ with_same (let_go_same (before_same done) chained) σ

  bytes_same :
      (done released : List ℕ)
      → filled (λ r. cond (due listed (before_release listed (moment_of σ) (is_done done)) r) 1 0) R.count released
      ≡ filled (λ r. cond (due (plan_of T) (before_release (plan_of T) (moment_of σ) (is_done done)) r) 1 0) (rows T) released
  bytes_same done released =
      ap (λ (n : ℕ). filled (λ r. cond (due listed (before_release listed (moment_of σ) (is_done done)) r) 1 0) n released) o.count
      ∙ filled_ext _ _ (rows T) released (λ r l. rw (due_same (before_same done) chained r l))

  -- and so on the whole tick.
  done_tick_same : (n : ℕ) (done released : List ℕ) → done_tick n listed σ done released ≡ done_tick n (plan_of T) σ done released
  unfolding done_tick plan_of
  done_tick_same n done released = λ i.
      cond (ltb (wrong_same n done i) n)
      (stays (WrongDoneByte (wrong_same n done i + 1)) σ released)
      (cond (ltb (up_same n done i) n)
      (stays (TimeUsedUp (up_same n done i + 1)) σ released)
      (record { outcome = taken (σ.clock + 1) (state_same done i); released = bytes_same done released i }))

  pub open_tick_same : (n : ℕ) (done released : List ℕ) → open_tick n listed σ done released ≡ open_tick n (plan_of T) σ done released
  unfolding open_tick clock_tick plan_of
  open_tick_same n done released = λ i.
      cond (not (eqb (length done) n)) (stays (WrongDoneLength n) σ released)
      (cond (ltb (length released) (o.count i)) (stays (TooShort (o.count i)) σ released)
      (cond (eqb σ.clock last_clock) (stays ClockAtEnd σ released)
      (done_tick_same n done released i)))

-- The answers of a tick on lists: 5, and a tick of the plan's rows.
module _ (T : Table) (σ : State) (done out : List ℕ) where
  pub tick_none : is_plan T ≡ false → stays NotAPlan σ out ≡ tick_on_lists T σ out (tick T σ done out)
  unfolding tick
  tick_none p = sym (tick_lent_no_plan T σ out (tick T σ done out) p ∙ rw p)

  tick_unfit : is_plan T ≡ true → fits_held T σ ≡ false → stays StateDoesNotFit σ out ≡ tick_on_lists T σ out (tick T σ done out)
  unfolding tick
  tick_unfit p f = go (held (rows T) σ) refl f
    where
      go :
          (b : Bool) → held (rows T) σ ≡ b → b && fits (plan_of T) (moment_of σ) ≡ false
          → stays StateDoesNotFit σ out ≡ tick_on_lists T σ out (tick T σ done out)
      go false h f = sym (tick_lent_short T σ out (tick T σ done out) p h)
      go true h f = sym (tick_lent_held T σ out (tick T σ done out) h ∙ rw (p, f))

  module _ {R : Rows} (o : RowsOf T R) where
    tick_fit :
        fits_held T σ ≡ true
        → open_tick T.processors (plan_from R.count R.period R.first T.processor T.priority T.time) σ done out
        ≡ tick_on_lists T σ out (tick T σ done out)
    unfolding tick open_tick clock_tick done_tick plan_of released_byte
    tick_fit f =
        open_tick_same o σ T.processors done out
        ∙ sym (tick_lent_held T σ out (tick T σ done out) (held_when_fits_held T σ f) ∙ rw (o.plan, fits_fits T σ f))

    pub tick_made :
        {x : TickOutcome} → x ≡ rows_tick T.processors R T.processor T.priority T.time σ done out
        → x ≡ tick_on_lists T σ out (tick T σ done out)
    unfolding rows_tick
    tick_made e = e ∙ go (fits_held T σ) refl
      where
        go : (b : Bool) → fits_held T σ ≡ b → rows_tick T.processors R T.processor T.priority T.time σ done out ≡ tick_on_lists T σ out (tick T σ done out)
        go true f = rw (rows_fit_lent o σ ∙ f) (tick_fit f)
        go false f = rw (rows_fit_lent o σ ∙ f) (tick_unfit o.plan f)
