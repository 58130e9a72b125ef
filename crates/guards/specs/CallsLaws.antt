-- Each call has one outcome for each input, and a refusal changes nothing.
use Rattle.std.specs.Prelude.{ℕ, pred, ◌≡◌, refl, Bool, true, false, cond, not, ◌&&◌, List, ltb, eqb, length, Err}
use Rattle.std.proofs.Common.{sym, ◌∙◌, arith}
use Rattle.facts.specs.Tests.{lowest}
use Rattle.table.specs.Table.{Table, first_row, rows, is_plan}
use Rattle.table.specs.Plan.{plan_of}
use Rattle.table.specs.Refusals.{last_clock}
use Rattle.table.specs.declared.refusal.Refusal.{Refusal}
use Rattle.guards.specs.declared.state.State.{State}
use Rattle.guards.specs.Outcome.{Outcome}
use Rattle.guards.specs.Rows.{Rows}
use Rattle.guards.specs.Moment.{moment_of}
use Rattle.guards.specs.Fits.{fits}
use Rattle.guards.specs.Lent.{holds, on_lists, tick_on_lists, rows_fit_in}
use Rattle.guards.specs.Calls.{TickOutcome, fresh_start, has_task, arrive, wrong_done, used_up, tick, refused, taken, stays}

-- Any two outcomes that a contract allows for one input are equal.
pub fresh_start_one : (T : Table) (σ : State) {o p : Outcome} → o ≡ fresh_start T σ → p ≡ fresh_start T σ → o ≡ p
fresh_start_one T σ a b = a ∙ sym b

pub arrive_one : (T : Table) (σ : State) (task : ℕ) {o p : Outcome} → o ≡ arrive T σ task → p ≡ arrive T σ task → o ≡ p
arrive_one T σ task a b = a ∙ sym b

pub tick_one :
    (T : Table) (σ : State) (done released : List ℕ) {o p : TickOutcome}
    → o ≡ tick T σ done released → p ≡ tick T σ done released → o ≡ p
tick_one T σ done released a b = a ∙ sym b

pub rows_fit_one : (R : Rows) (time : List ℕ) (σ : State) {o p : Bool} → o ≡ rows_fit_in R time σ → p ≡ rows_fit_in R time σ → o ≡ p
rows_fit_one R time σ a b = a ∙ sym b

-- An outcome keeps the state σ where its answer is a refusal.
record Keeps (σ : State) (o : Outcome) : Type 0 where
  kept : (refusal : Refusal) → o.answer ≡ Err refusal → o.state ≡ σ

refused_keeps : (σ : State) (refusal : Refusal) → Keeps σ (refused refusal σ)
refused_keeps σ refusal = record { kept = λ r e. refl }

taken_keeps : (σ τ : State) (answer : ℕ) → Keeps σ (taken answer τ)
taken_keeps σ τ answer = record { kept = λ r e. (let z : ◌≡◌ {A = ℕ} 0 1 = cc in absurd (omega arith)) }

either_keeps : {σ : State} (b : Bool) {o p : Outcome} → Keeps σ o → Keeps σ p → Keeps σ (cond b o p)
either_keeps true k l = k
either_keeps false k l = l

fresh_start_all : (T : Table) (σ : State) → Keeps σ (fresh_start T σ)
unfolding fresh_start
fresh_start_all T σ = either_keeps (not (is_plan T)) (refused_keeps σ _) (taken_keeps σ _ _)

pub fresh_start_keeps : (T : Table) (σ : State) (refusal : Refusal) → (fresh_start T σ).answer ≡ Err refusal → (fresh_start T σ).state ≡ σ
fresh_start_keeps T σ = (fresh_start_all T σ).kept

arrive_all : (T : Table) (σ : State) (task : ℕ) → Keeps σ (arrive T σ task)
unfolding arrive
arrive_all T σ task =
    either_keeps (not (is_plan T)) (refused_keeps σ _)
    (either_keeps (not (fits (plan_of T) (moment_of σ))) (refused_keeps σ _)
    (either_keeps (not (has_task T task)) (refused_keeps σ _)
    (either_keeps (ltb σ.clock ((moment_of σ).guard (first_row T (pred task)))) (refused_keeps σ _)
    (taken_keeps σ _ _))))

pub arrive_keeps : (T : Table) (σ : State) (task : ℕ) (refusal : Refusal) → (arrive T σ task).answer ≡ Err refusal → (arrive T σ task).state ≡ σ
arrive_keeps T σ task = (arrive_all T σ task).kept

-- On lent lists too.
lent_all : (T : Table) (σ : State) {o : Outcome} → Keeps σ o → Keeps σ (on_lists T σ o)
unfolding on_lists
lent_all T σ k =
    either_keeps (is_plan T && not (holds (rows T) σ.released σ.completed σ.used σ.guard)) (refused_keeps σ _) k

pub fresh_in_keeps :
    (T : Table) (σ : State) (refusal : Refusal)
    → (on_lists T σ (fresh_start T σ)).answer ≡ Err refusal → (on_lists T σ (fresh_start T σ)).state ≡ σ
fresh_in_keeps T σ = (lent_all T σ (fresh_start_all T σ)).kept

pub arrive_in_keeps :
    (T : Table) (σ : State) (task : ℕ) (refusal : Refusal)
    → (on_lists T σ (arrive T σ task)).answer ≡ Err refusal → (on_lists T σ (arrive T σ task)).state ≡ σ
arrive_in_keeps T σ task = (lent_all T σ (arrive_all T σ task)).kept

-- State and release list are as they were.
pub record Untouched (σ : State) (released : List ℕ) (o : TickOutcome) : Type 0 where
  pub state : o.outcome.state ≡ σ
  pub list : o.released ≡ released

record TickKeeps (σ : State) (released : List ℕ) (o : TickOutcome) : Type 0 where
  kept : (refusal : Refusal) → o.outcome.answer ≡ Err refusal → Untouched σ released o

module _ (σ : State) (released : List ℕ) where
  stays_keeps : (refusal : Refusal) → TickKeeps σ released (stays refusal σ released)
  stays_keeps refusal = record { kept = λ r e. record { state = refl; list = refl } }

  tick_taken_keeps : (τ : State) (list : List ℕ) (answer : ℕ) → TickKeeps σ released (record { outcome = taken answer τ; released = list })
  tick_taken_keeps τ list answer = record { kept = λ r e. (let z : ◌≡◌ {A = ℕ} 0 1 = cc in absurd (omega arith)) }

  tick_either_keeps :
      (b : Bool) {o p : TickOutcome} → TickKeeps σ released o → TickKeeps σ released p → TickKeeps σ released (cond b o p)
  tick_either_keeps true k l = k
  tick_either_keeps false k l = l

tick_all : (T : Table) (σ : State) (done released : List ℕ) → TickKeeps σ released (tick T σ done released)
unfolding tick
tick_all T σ done released =
    tick_either_keeps σ released (not (is_plan T)) (stays_keeps σ released _)
    (tick_either_keeps σ released (not (fits (plan_of T) (moment_of σ))) (stays_keeps σ released _)
    (tick_either_keeps σ released (not (eqb (length done) T.processors)) (stays_keeps σ released _)
    (tick_either_keeps σ released (ltb (length released) (rows T)) (stays_keeps σ released _)
    (tick_either_keeps σ released (eqb σ.clock last_clock) (stays_keeps σ released _)
    (tick_either_keeps σ released (ltb (lowest T.processors (wrong_done (plan_of T) (moment_of σ) done)) T.processors) (stays_keeps σ released _)
    (tick_either_keeps σ released (ltb (lowest T.processors (used_up (plan_of T) (moment_of σ) done)) T.processors) (stays_keeps σ released _)
    (tick_taken_keeps σ released _ _ _)))))))

lent_tick_all : (T : Table) (σ : State) (done released : List ℕ) → TickKeeps σ released (tick_on_lists T σ released (tick T σ done released))
unfolding tick_on_lists
lent_tick_all T σ done released =
    tick_either_keeps σ released (is_plan T && not (holds (rows T) σ.released σ.completed σ.used σ.guard))
    (stays_keeps σ released _) (tick_all T σ done released)

pub tick_in_keeps :
    (T : Table) (σ : State) (done released : List ℕ) (refusal : Refusal)
    → (tick_on_lists T σ released (tick T σ done released)).outcome.answer ≡ Err refusal
    → Untouched σ released (tick_on_lists T σ released (tick T σ done released))
tick_in_keeps T σ done released = (lent_tick_all T σ done released).kept

pub tick_keeps :
    (T : Table) (σ : State) (done released : List ℕ) (refusal : Refusal)
    → (tick T σ done released).outcome.answer ≡ Err refusal → Untouched σ released (tick T σ done released)
tick_keeps T σ done released = (tick_all T σ done released).kept
