-- What fresh start and arrive on lent lists come to, answer by answer.
use Rattle.std.specs.Prelude.{ℕ, pred, ◌<◌, ◌≡◌, Bool, ◌&&◌, List}
use Rattle.std.proofs.Math.Path.{refl, sym, ap}
use Rattle.std.proofs.Common.{◌∙◌}
use Rattle.std.proofs.Math.Bool.{true, false}
use Rattle.facts.specs.TestsLaws.{and_left, and_right}
use Rattle.facts.specs.Filled.{filled}
use Rattle.table.specs.Table.{Table, first_row, rows, is_plan}
use Rattle.table.specs.Plan.{plan_of}
use Rattle.table.specs.declared.refusal.Refusal.{Refusal}
use Rattle.table.specs.declared.refusal.Refusal.TheVariants.{NotAPlan, NoSuchTask, StateDoesNotFit}
use Rattle.guards.specs.declared.state.State.{State}
use Rattle.guards.specs.Outcome.{Outcome}
use Rattle.guards.specs.Outcome.{Called}
use Rattle.guards.specs.Moment.{moment_of}
use Rattle.guards.specs.Fits.{fits}
use Rattle.guards.specs.Calls.{refused, taken, fresh_start, has_task, arrive}
use Rattle.guards.specs.Arrival.{arrived_at}
use Rattle.guards.specs.ArrivalLaws.{arrived_at_is}
use Rattle.guards.specs.Lent.{outcome_of, refused_at, taken_at, on_lists}
use Rattle.guards.specs.LentLaws.{held, held_long, lent_no_plan, lent_short, lent_held, start_made}

-- An outcome that leaves the lists of σ.
abbrev pub leaves : State → Called → Outcome
leaves σ called = outcome_of called σ.released σ.completed σ.used σ.guard

pub leaves_refused : (σ : State) (refusal : Refusal) {o : Called} → o ≡ refused_at refusal σ.clock → leaves σ o ≡ refused refusal σ
leaves_refused σ refusal e = ap (leaves σ) e

-- The lists hold the plan's rows, and the state fits the plan.
abbrev pub fits_held : Table → State → Bool
fits_held T σ = held (rows T) σ && fits (plan_of T) (moment_of σ)

pub held_when_fits_held : (T : Table) (σ : State) → fits_held T σ ≡ true → held (rows T) σ ≡ true
held_when_fits_held T σ e = and_left (held (rows T) σ) _ e

pub fits_fits : (T : Table) (σ : State) → fits_held T σ ≡ true → fits (plan_of T) (moment_of σ) ≡ true
fits_fits T σ e = and_right (held (rows T) σ) _ e

module _ (T : Table) (σ : State) where
  -- Fresh start: 5, 14, and all at 0.
  pub fresh_none : {o : Called} → o ≡ refused_at NotAPlan σ.clock → is_plan T ≡ false → leaves σ o ≡ on_lists T σ (fresh_start T σ)
  unfolding fresh_start
  fresh_none e p = leaves_refused σ NotAPlan e ∙ sym (lent_no_plan T σ (fresh_start T σ) p ∙ rw p)

  pub fresh_short :
      {o : Called} → o ≡ refused_at StateDoesNotFit σ.clock → is_plan T ≡ true → held (rows T) σ ≡ false
      → leaves σ o ≡ on_lists T σ (fresh_start T σ)
  fresh_short e p h = leaves_refused σ StateDoesNotFit e ∙ sym (lent_short T σ (fresh_start T σ) p h)

  pub fresh_made :
      {o : Called} {released completed used guard : List ℕ} → o ≡ taken_at 0 0 → is_plan T ≡ true → held (rows T) σ ≡ true
      → released ≡ filled (λ r. 0) (rows T) σ.released → completed ≡ filled (λ r. 0) (rows T) σ.completed
      → used ≡ filled (λ r. 0) (rows T) σ.used → guard ≡ filled (λ r. 0) (rows T) σ.guard
      → outcome_of o released completed used guard ≡ on_lists T σ (fresh_start T σ)
  unfolding fresh_start
  fresh_made {o} {released} {completed} {used} {guard} e p h a b c d =
      ap (λ (o : Called). outcome_of o released completed used guard) e
      ∙ ap (λ (τ : State). taken 0 τ) (start_made (rows T) σ a b c d)
      ∙ sym (lent_held T σ (fresh_start T σ) h ∙ rw p)

  module _ (task : ℕ) where
    -- Arrive: 5, 14, 8, and an arrival at the task's first row.
    pub arrive_none : {o : Called} → o ≡ refused_at NotAPlan σ.clock → is_plan T ≡ false → leaves σ o ≡ on_lists T σ (arrive T σ task)
    unfolding arrive
    arrive_none e p = leaves_refused σ NotAPlan e ∙ sym (lent_no_plan T σ (arrive T σ task) p ∙ rw p)

    pub arrive_unfit :
        {o : Called} → o ≡ refused_at StateDoesNotFit σ.clock → is_plan T ≡ true → fits_held T σ ≡ false
        → leaves σ o ≡ on_lists T σ (arrive T σ task)
    unfolding arrive
    arrive_unfit e p f = leaves_refused σ StateDoesNotFit e ∙ go (held (rows T) σ) refl f
      where
        go : (b : Bool) → held (rows T) σ ≡ b → b && fits (plan_of T) (moment_of σ) ≡ false → refused StateDoesNotFit σ ≡ on_lists T σ (arrive T σ task)
        go false h f = sym (lent_short T σ (arrive T σ task) p h)
        go true h f = sym (lent_held T σ (arrive T σ task) h ∙ rw (p, f))

    module _ (p : is_plan T ≡ true) (f : fits_held T σ ≡ true) where
      pub arrive_no_task : {o : Called} → o ≡ refused_at (NoSuchTask task) σ.clock → has_task T task ≡ false → leaves σ o ≡ on_lists T σ (arrive T σ task)
      unfolding arrive
      arrive_no_task e n =
          leaves_refused σ (NoSuchTask task) e
          ∙ sym (lent_held T σ (arrive T σ task) (held_when_fits_held T σ f) ∙ rw (p, fits_fits T σ f, n))

      pub arrive_made :
          {o : Outcome} → has_task T task ≡ true → first_row T (pred task) < rows T
          → o ≡ arrived_at (first_row T (pred task)) ((plan_of T).period (first_row T (pred task))) σ
          → o ≡ on_lists T σ (arrive T σ task)
      unfolding arrive
      arrive_made t l e =
          e ∙ arrived_at_is (plan_of T) (rows T) (first_row T (pred task)) σ (held_long (rows T) σ (held_when_fits_held T σ f)) l
          ∙ sym (lent_held T σ (arrive T σ task) (held_when_fits_held T σ f) ∙ rw (p, fits_fits T σ f, t))
