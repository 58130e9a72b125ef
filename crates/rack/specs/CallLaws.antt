-- A call on byte lists: one that isn't tried, and one that is.
use Rattle.std.specs.Prelude.{ℕ, ◌≡◌, false, List, length, Err}
use Rattle.std.proofs.Math.Path.{refl}
use Rattle.std.proofs.Common.{◌∙◌, ap}
use Rattle.table.specs.Table.{Table, is_plan}
use Rattle.table.specs.declared.refusal.Refusal.TheVariants.{NotAPlan}
use Rattle.guards.specs.declared.state.State.{State}
use Rattle.guards.specs.Outcome.{Outcome}
use Rattle.guards.specs.StateLaws.{Sizes}
use Rattle.guards.specs.Lent.{on_lists, tick_on_lists}
use Rattle.guards.specs.LentLaws.{lent_sized, tick_lent_sized}
use Rattle.guards.specs.Calls.{fresh_start, arrive, tick, TickOutcome}
use Rattle.rack.specs.declared.call.Call.{Call}
use Rattle.rack.specs.declared.call.Call.TheVariants.{Fresh, Arrive, Tick}
use Rattle.rack.specs.Layouts.{table_bytes, state_bytes, table_in, rows_in, state_in}
use Rattle.rack.specs.RackCalls.{StateOutcome, RackTickOutcome, tried, kept_in, called, called_in, rack_call, rack_fresh, rack_arrive, guarded}
use Rattle.rack.specs.GuardedLaws.{call_kept, released_stays, released_kept}

-- An outcome and a release list together.
pub both_kept : {o p : StateOutcome} {r s : List ℕ} → o ≡ p → r ≡ s
    → ◌≡◌ {A = RackTickOutcome} (record { outcome = o; released = r }) (record { outcome = p; released = s })
both_kept e f = rw (e, f)

-- The call on a table and the state that the list holds for n rows.
unfoldable pub called_on : Call → Table → ℕ → List ℕ → List ℕ → List ℕ → RackTickOutcome
called_on call T n state done released =
    let t = called call T (state_in n state) done released in
    record { outcome = kept_in n state t.outcome; released = t.released }

pub called_on_is : (call : Call) (T : Table) (n : ℕ) (state done released : List ℕ) {σ : State} {t : TickOutcome} {o : StateOutcome}
    → σ ≡ state_in n state → t ≡ called call T σ done released → o ≡ kept_in n state t.outcome
    → ◌≡◌ {A = RackTickOutcome} (record { outcome = o; released = t.released }) (called_on call T n state done released)
unfolding called_on
called_on_is call T n state done released eσ et eo = rw (eo, et, eσ)

module _ (done released : List ℕ) where
  -- A call on a table that is no plan is refused and leaves the release list.
  no_plan : (call : Call) (T : Table) (σ : State) → is_plan T ≡ false → (called call T σ done released).outcome.answer ≡ Err NotAPlan
  unfolding called fresh_start arrive tick
  no_plan Fresh T σ e = rw e
  no_plan (Arrive task) T σ e = rw e
  no_plan Tick T σ e = rw e

  no_plan_released : (call : Call) (T : Table) (σ : State) → is_plan T ≡ false → (called call T σ done released).released ≡ released
  unfolding called tick
  no_plan_released Fresh T σ e = refl
  no_plan_released (Arrive task) T σ e = refl
  no_plan_released Tick T σ e = rw e

  module _ (call : Call) (table state : List ℕ) where
    -- A call that isn't tried,
    pub call_untried : {o : StateOutcome} → tried table state ≡ false
        → o ≡ guarded table state (kept_in (rows_in table) state (called_in call table state done released).outcome)
        → ◌≡◌ {A = RackTickOutcome} (record { outcome = o; released = released }) (rack_call call table state done released)
    unfolding rack_call
    call_untried e f = both_kept f (released_stays table state (called_in call table state done released).released e)

    -- and one that is, on the table and state that the lists hold.
    pub call_made : {n : ℕ} {T : Table} {x : RackTickOutcome}
        → length table ≡ table_bytes → length state ≡ state_bytes
        → n ≡ rows_in table → T ≡ table_in table → x ≡ called_on call T n state done released → x ≡ rack_call call table state done released
    unfolding rack_call called_in called_on
    call_made a b en eT e =
        e ∙ both_kept
        (call_kept table state (λ T σ. (called call T σ done released).outcome) a b (no_plan call) en eT refl refl refl)
        (released_kept table state a b (no_plan_released call (table_in table) (state_in (rows_in table) state)) (rw (eT, en)))

-- Fresh start and arrive read no done list and no release list.
pub fresh_alone : (table state done released : List ℕ) {o : RackTickOutcome} → o ≡ rack_call Fresh table state done released → o.outcome ≡ rack_fresh table state
unfolding rack_fresh rack_call called_in called
fresh_alone table state done released e = ap (λ (x : RackTickOutcome). x.outcome) e

pub arrive_alone : (table state done released : List ℕ) (task : ℕ) {o : RackTickOutcome} → o ≡ rack_call (Arrive task) table state done released → o.outcome ≡ rack_arrive table state task
unfolding rack_arrive rack_call called_in called
arrive_alone table state done released task e = ap (λ (x : RackTickOutcome). x.outcome) e

-- The outcome of a call by what is asked, on lists of 128 entries.
module _ (T : Table) (σ : State) (sizes : Sizes σ) (done released : List ℕ) (call : Call) where
  pub fresh_called : {o : Outcome} → call ≡ Fresh → o ≡ on_lists T σ (fresh_start T σ)
      → ◌≡◌ {A = TickOutcome} (record { outcome = o; released = released }) (called call T σ done released)
  unfolding called
  fresh_called e f = rw (e, f, lent_sized T σ (fresh_start T σ) sizes)

  pub arrive_called : (task : ℕ) {o : Outcome} → call ≡ Arrive task → o ≡ on_lists T σ (arrive T σ task)
      → ◌≡◌ {A = TickOutcome} (record { outcome = o; released = released }) (called call T σ done released)
  unfolding called
  arrive_called task e f = rw (e, f, lent_sized T σ (arrive T σ task) sizes)

  pub tick_called : {o : TickOutcome} → call ≡ Tick → o ≡ tick_on_lists T σ released (tick T σ done released) → o ≡ called call T σ done released
  unfolding called
  tick_called e f = rw (e, f, tick_lent_sized T σ released (tick T σ done released) sizes)
