-- An arrival at a row of a plan.
use Rattle.std.specs.Prelude.{ℕ, zero, suc, pred, ◌+◌, ◌-◌, ◌≤◌, ◌<◌, ◌≡◌, ◌&&◌, leb, ltb}
use Rattle.std.proofs.Math.Path.{refl, ap}
use Rattle.std.proofs.Common.{arith}
use Rattle.std.proofs.Math.Bool.{true, cond}
use borrow.Author.Tests.{eq-eqb, ne_eqb, leb-true}
use Rattle.std.proofs.Math.Dec.{eqb}
use Rattle.std.proofs.Math.ListN.{set}
use Rattle.facts.specs.Filled.{filled}
use Rattle.facts.specs.TestsLaws.{and_left, and_right}
use Rattle.table.specs.Table.{Table, at, first_row, rows}
use Rattle.table.specs.TableLaws.{Checked}
use Rattle.table.specs.Plan.{Plan, plan_of}
use Rattle.table.specs.PlanLaws.{first_row_suc, first_row_mono, small_of}
use Rattle.table.specs.declared.refusal.Refusal.TheVariants.{TooSoon}
use Rattle.guards.specs.declared.state.State.{State}
use Rattle.guards.specs.Moment.{Moment, moment_of, state_with}
use Rattle.guards.specs.Machine.{arrived}
use Rattle.guards.specs.Fits.{fits}
use Rattle.guards.specs.Calls.{refused, taken}
use Rattle.guards.specs.Arrival.{Arriving, arrived_at}
use Rattle.guards.specs.ListsLaws.{filled_own, filled_one}
use Rattle.guards.specs.Lent.{Long}
use Rattle.guards.specs.BoundsLaws.{Bounded, bounded}

-- The test that a task is the plan's.
pub task_in_range : (tasks task : ℕ) → leb 1 task && leb task tasks ≡ true → (1 ≤ task) × (task ≤ tasks)
task_in_range tasks task e = (leb-true _ _ (and_left (leb 1 task) _ e), leb-true _ _ (and_right (leb 1 task) _ e))

pub less_one : (n : ℕ) → n - 1 ≡ pred n
less_one zero = refl
less_one (suc n) = omega arith

-- A task's first row is one of the plan's.
pub first_row_below : (T : Table) → Checked T → (task : ℕ) → 1 ≤ task → task ≤ T.tasks → first_row T (pred task) < rows T
unfolding rows
first_row_below T ok zero a b = absurd (omega arith)
first_row_below T ok (suc i) a b =
    omega (arith, first_row_suc T i, first_row_mono T (suc i) T.tasks b, (ok.tasks.each i (omega arith)).steps_least)

-- The state after it is as the machine says.
module _ (P : Plan) (n f : ℕ) (σ : State) (z : Long n σ) (l : f < n) where
  arrived_state :
      record {
        clock = σ.clock;
        released = set σ.released f (at σ.released f + 1);
        completed = σ.completed;
        used = σ.used;
        guard = set σ.guard f (σ.clock + P.period f);
      } ≡ state_with n (arrived P (moment_of σ) f) σ
  unfolding state_with arrived moment_of
  arrived_state =
      let m : Moment = arrived P (moment_of σ) f in
      let e : eqb f f ≡ true = eq-eqb f f refl in
      let r : set σ.released f (at σ.released f + 1) ≡ filled m.released n σ.released =
      filled_one 0 m.released n σ.released f _ z.released l (rw e) (λ i a q. rw (ne_eqb i f q)) in
      let g : set σ.guard f (σ.clock + P.period f) ≡ filled m.guard n σ.guard =
      filled_one 0 m.guard n σ.guard f _ z.guard l (rw e) (λ i a q. rw (ne_eqb i f q)) in
      let c : σ.completed ≡ filled m.completed n σ.completed =
      filled_own 0 m.completed n σ.completed z.completed (λ i a. refl) in
      let u : σ.used ≡ filled m.used n σ.used =
      filled_own 0 m.used n σ.used z.used (λ i a. refl) in
      λ i. record { clock = σ.clock; released = r i; completed = c i; used = u i; guard = g i }

  pub arrived_at_is :
      arrived_at f (P.period f) σ
      ≡ cond (ltb σ.clock ((moment_of σ).guard f)) (refused (TooSoon ((moment_of σ).guard f)) σ) (taken (f + 1) (state_with n (arrived P (moment_of σ) f) σ))
  unfolding arrived_at moment_of
  arrived_at_is = ap (λ (τ : State). cond (ltb σ.clock (at σ.guard f)) (refused (TooSoon (at σ.guard f)) σ) (taken (f + 1) τ)) arrived_state

-- Where the state fits, the numbers are small.
pub arriving :
    (T : Table) → Checked T → (σ : State) → Long (rows T) σ → fits (plan_of T) (moment_of σ) ≡ true
    → (f : ℕ) → f < rows T → Arriving f ((plan_of T).period f) σ.clock σ.released σ.guard
unfolding plan_of moment_of
arriving T ok σ z e f l =
    let b : Bounded (plan_of T) (moment_of σ) = bounded (plan_of T) (moment_of σ) e in
    record {
      row_most = omega (arith, ok.rows_most);
      released_long = omega (arith, z.released);
      guard_long = omega (arith, z.guard);
      period_most = (small_of T ok).period_most f l;
      clock_most = b.clock;
      released_most = b.released f l;
    }
