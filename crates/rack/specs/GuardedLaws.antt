-- When a call on byte lists is tried, and what comes out where it isn't.
use Rattle.std.specs.Prelude.{ℕ, ◌≡◌, Bool, ◌&&◌, List, eqb, length, Err}
use Rattle.std.proofs.Math.Path.{refl, sym}
use Rattle.std.proofs.Common.{◌∙◌}
use Rattle.std.proofs.Math.Bool.{true, false, cond}
use borrow.Author.Tests.{eq-eqb, ne_eqb}
use Rattle.table.specs.Table.{Table, is_plan}
use Rattle.table.specs.declared.refusal.Refusal.TheVariants.{NotAPlan, StateDoesNotFit}
use Rattle.guards.specs.declared.state.State.{State}
use Rattle.guards.specs.Outcome.{Outcome}
use Rattle.rack.specs.declared.answer.RackAnswer.{RackAnswer}
use Rattle.rack.specs.Layouts.{table_bytes, state_bytes, table_in, rows_in, state_in}
use Rattle.rack.specs.RackCalls.{StateOutcome, refused_as, kept_in, holds_plan, tried, guarded}
use Rattle.rack.specs.LayoutsLaws.{refused_kept}

module _ (table state : List ℕ) where
  -- A table list of another length,
  pub other_table : (length table ≡ table_bytes → ⊥) → tried table state ≡ false
  unfolding tried holds_plan
  other_table n = rw (ne_eqb (length table) table_bytes n)

  pub refused_table : (o : StateOutcome) {a : RackAnswer} → (length table ≡ table_bytes → ⊥) → a ≡ refused_as NotAPlan
      → ◌≡◌ {A = StateOutcome} (record { answer = a; state = state }) (guarded table state o)
  unfolding guarded tried holds_plan
  refused_table o n e = rw (ne_eqb (length table) table_bytes n, e)

  -- a state list of another length,
  pub other_state : (length state ≡ state_bytes → ⊥) → tried table state ≡ false
  unfolding tried
  other_state n = rw (ne_eqb (length state) state_bytes n) (no (holds_plan table))
    where
      no : (b : Bool) → b && false ≡ false
      no true = refl
      no false = refl

  pub refused_state : (o : StateOutcome) {a : RackAnswer} {p : Bool} → length table ≡ table_bytes → (length state ≡ state_bytes → ⊥)
      → p ≡ is_plan (table_in table) → a ≡ refused_as (cond p StateDoesNotFit NotAPlan)
      → ◌≡◌ {A = StateOutcome} (record { answer = a; state = state }) (guarded table state o)
  unfolding guarded holds_plan
  refused_state o {a} {p} t n e f = rw (other_state n, eq-eqb (length table) table_bytes t, f, e)

  -- and lists of the right lengths: the call is tried, and a table that is no plan is refused by the call itself.
  pub right_lengths : length table ≡ table_bytes → length state ≡ state_bytes → tried table state ≡ is_plan (table_in table)
  unfolding tried holds_plan
  right_lengths t s = rw (eq-eqb (length table) table_bytes t, eq-eqb (length state) state_bytes s) (yes (is_plan (table_in table)))
    where
      yes : (b : Bool) → b && true ≡ b
      yes true = refl
      yes false = refl

  pub outcome_kept : (o : Outcome) {x : StateOutcome} → length table ≡ table_bytes → length state ≡ state_bytes
      → (is_plan (table_in table) ≡ false → o.answer ≡ Err NotAPlan)
      → x ≡ kept_in (rows_in table) state o → x ≡ guarded table state (kept_in (rows_in table) state o)
  unfolding guarded holds_plan
  outcome_kept o {x} t s unless e = by (is_plan (table_in table)) refl
    where
      by : (b : Bool) → is_plan (table_in table) ≡ b → x ≡ cond (tried table state) (kept_in (rows_in table) state o)
          (record { answer = refused_as (cond (eqb (length table) table_bytes && is_plan (table_in table)) StateDoesNotFit NotAPlan); state = state })
      by true q = rw (right_lengths t s, q) e
      by false q = rw (right_lengths t s, q, eq-eqb (length table) table_bytes t) (e ∙ sym (refused_kept (rows_in table) NotAPlan o {l = state} (unless q) refl))

  -- A call tried on the table and state that the lists hold, said of any call that refuses what is no plan.
  pub call_kept : (call : Table → State → Outcome) {n : ℕ} {T : Table} {σ : State} {o : Outcome} {x : StateOutcome}
      → length table ≡ table_bytes → length state ≡ state_bytes
      → ((T : Table) (σ : State) → is_plan T ≡ false → (call T σ).answer ≡ Err NotAPlan)
      → n ≡ rows_in table → T ≡ table_in table → σ ≡ state_in n state → o ≡ call T σ → x ≡ kept_in n state o
      → x ≡ guarded table state (kept_in (rows_in table) state (call (table_in table) (state_in (rows_in table) state)))
  call_kept call t s unless en eT eσ eo ex =
      outcome_kept (call (table_in table) (state_in (rows_in table) state)) t s (unless (table_in table) (state_in (rows_in table) state))
      (ex ∙ rw (eo, eσ, eT, en))

  -- A tick's release list stays where the tick isn't tried,
  pub released_stays : (o : List ℕ) {released : List ℕ} → tried table state ≡ false → released ≡ cond (tried table state) o released
  released_stays o e = rw e

  -- and is what the tick leaves where it is tried: a tick on what is no plan leaves it too.
  pub released_kept : {o x released : List ℕ} → length table ≡ table_bytes → length state ≡ state_bytes
      → (is_plan (table_in table) ≡ false → o ≡ released) → x ≡ o → x ≡ cond (tried table state) o released
  released_kept {o} {x} {released} t s unless e = by (is_plan (table_in table)) refl
    where
      by : (b : Bool) → is_plan (table_in table) ≡ b → x ≡ cond (tried table state) o released
      by true q = rw (right_lengths t s, q) e
      by false q = rw (right_lengths t s, q) (e ∙ unless q)
