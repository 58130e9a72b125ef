-- What calls on lent lists come to.
use Rattle.std.specs.Prelude.{ℕ, ◌+◌, ◌≤◌, ◌<◌, ◌≡◌, refl, Bool, true, false, ◌&&◌, List, [], ◌∷◌, leb, length, set}
use Rattle.std.proofs.Common.{◌∙◌, ap, arith, length-set}
use borrow.Author.Tests.{leb-true, le-leb, lt-leb}
use Rattle.facts.specs.TestsLaws.{and_left, and_right, and_false}
use Rattle.facts.specs.Tests.{all}
use Rattle.facts.specs.Filled.{filled}
use Rattle.facts.specs.FilledLaws.{filled_none, filled_more}
use Rattle.table.specs.Table.{Table, at, rows, is_plan, most_rows}
use Rattle.table.specs.TableLaws.{Checked, checked}
use Rattle.table.specs.Plan.{plan_of}
use Rattle.table.specs.Refusals.{last_clock}
use Rattle.table.specs.declared.refusal.Refusal.TheVariants.{StateDoesNotFit}
use Rattle.guards.specs.declared.state.State.{State}
use Rattle.guards.specs.Outcome.{Outcome}
use Rattle.guards.specs.Moment.{moment_of, state_with}
use Rattle.guards.specs.Machine.{start}
use Rattle.guards.specs.Fits.{row_fits, fits}
use Rattle.guards.specs.Rows.{Rows, plan_from, rows_fit}
use Rattle.guards.specs.PartsLaws.{rows_fit_listed}
use Rattle.guards.specs.Calls.{TickOutcome, refused, stays}
use Rattle.guards.specs.StateLaws.{Sizes}
use Rattle.guards.specs.RowsLaws.{RowsOf, rows_fit_plan}
use Rattle.guards.specs.Lent.{state_of, holds, on_lists, tick_on_lists, stand, rows_fit_in, Long, Fitting}

-- Whether the state's own lists hold n rows.
abbrev pub held : ℕ → State → Bool
held n σ = holds n σ.released σ.completed σ.used σ.guard

pub held_long : (n : ℕ) (σ : State) → held n σ ≡ true → Long n σ
unfolding holds
held_long n σ e =
    let a = and_right (leb n (length σ.released)) _ e in
    let b = and_right (leb n (length σ.completed)) _ a in
    record {
      released = leb-true _ _ (and_left (leb n (length σ.released)) _ e);
      completed = leb-true _ _ (and_left (leb n (length σ.completed)) _ a);
      used = leb-true _ _ (and_left (leb n (length σ.used)) _ b);
      guard = leb-true _ _ (and_right (leb n (length σ.used)) _ b);
    }

pub long_held : (n : ℕ) (σ : State) → Long n σ → held n σ ≡ true
unfolding holds
long_held n σ l = rw (le-leb _ _ l.released, le-leb _ _ l.completed, le-leb _ _ l.used, le-leb _ _ l.guard)

-- Lists of 128 hold every plan's rows.
pub sizes_long : (n : ℕ) (σ : State) → Sizes σ → n ≤ 128 → Long n σ
sizes_long n σ z l = record {
  released = omega (arith, z.released);
  completed = omega (arith, z.completed);
  used = omega (arith, z.used);
  guard = omega (arith, z.guard);
}

-- A table that is no plan is refused as ever,
pub lent_no_plan : (T : Table) (σ : State) (o : Outcome) → is_plan T ≡ false → on_lists T σ o ≡ o
unfolding on_lists
lent_no_plan T σ o e = rw e

-- lists that are too short are refused with 14,
pub lent_short : (T : Table) (σ : State) (o : Outcome) → is_plan T ≡ true → held (rows T) σ ≡ false → on_lists T σ o ≡ refused StateDoesNotFit σ
unfolding on_lists
lent_short T σ o p e = rw (p, e)

-- and lists that are not come to what a state does.
pub lent_held : (T : Table) (σ : State) (o : Outcome) → held (rows T) σ ≡ true → on_lists T σ o ≡ o
unfolding on_lists
lent_held T σ o e = rw (e, and_false (is_plan T))

pub lent_sized : (T : Table) (σ : State) (o : Outcome) → Sizes σ → on_lists T σ o ≡ o
lent_sized T σ o z = go (is_plan T) refl
  where
    go : (b : Bool) → is_plan T ≡ b → on_lists T σ o ≡ o
    go false e = lent_no_plan T σ o e
    go true e = lent_held T σ o (long_held (rows T) σ (sizes_long (rows T) σ z (checked T e).rows_most))

-- A tick, the same way.
pub tick_lent_no_plan : (T : Table) (σ : State) (l : List ℕ) (o : TickOutcome) → is_plan T ≡ false → tick_on_lists T σ l o ≡ o
unfolding tick_on_lists
tick_lent_no_plan T σ l o e = rw e

pub tick_lent_short :
    (T : Table) (σ : State) (l : List ℕ) (o : TickOutcome) → is_plan T ≡ true → held (rows T) σ ≡ false
    → tick_on_lists T σ l o ≡ stays StateDoesNotFit σ l
unfolding tick_on_lists
tick_lent_short T σ l o p e = rw (p, e)

pub tick_lent_held : (T : Table) (σ : State) (l : List ℕ) (o : TickOutcome) → held (rows T) σ ≡ true → tick_on_lists T σ l o ≡ o
unfolding tick_on_lists
tick_lent_held T σ l o e = rw (e, and_false (is_plan T))

pub tick_lent_sized : (T : Table) (σ : State) (l : List ℕ) (o : TickOutcome) → Sizes σ → tick_on_lists T σ l o ≡ o
tick_lent_sized T σ l o z = go (is_plan T) refl
  where
    go : (b : Bool) → is_plan T ≡ b → tick_on_lists T σ l o ≡ o
    go false e = tick_lent_no_plan T σ l o e
    go true e = tick_lent_held T σ l o (long_held (rows T) σ (sizes_long (rows T) σ z (checked T e).rows_most))

-- The rows of a plan have their place, so whether the state fits them is whether its lists hold them and it fits the plan.
pub rows_fit_lent :
    {T : Table} {R : Rows} → RowsOf T R → (σ : State) → rows_fit_in R T.time σ ≡ held (rows T) σ && fits (plan_of T) (moment_of σ)
unfolding rows_fit_in stand
rows_fit_lent {T} {R} o σ =
    let ok : Checked T = checked T o.plan in
    rw (le-leb R.count most_rows (omega (arith, o.count, ok.rows_most)), le-leb _ _ (long R.period o.period_long), le-leb _ _ (long R.first o.first_long), le-leb _ _ (long T.time ok.row_lists.three), rows_fit_plan o σ, o.count)
  where
    long : {A : Type 0} (l : List A) → rows T ≤ length l → R.count ≤ length l
    long l b = omega (arith, o.count)

-- Four lists with their first rows at 0 are a state freshly started.
pub start_made :
    (n : ℕ) (σ : State) {released completed used guard : List ℕ}
    → released ≡ filled (λ r. 0) n σ.released → completed ≡ filled (λ r. 0) n σ.completed
    → used ≡ filled (λ r. 0) n σ.used → guard ≡ filled (λ r. 0) n σ.guard
    → state_of 0 released completed used guard ≡ state_with n start σ
unfolding state_with start
start_made n σ a b c d = λ i. state_of 0 (a i) (b i) (c i) (d i)

-- A list is now at 0 for n rows, and as long as it was.
pub record Cleared (n : ℕ) (before after : List ℕ) : Type 0 where
  pub list : after ≡ filled (λ r. 0) n before
  pub long : length after ≡ length before

pub cleared_none : (l : List ℕ) → Cleared 0 l l
cleared_none l = record { list = filled_none _ l; long = refl }

pub cleared_more : (n : ℕ) (l : List ℕ) {k : List ℕ} → Cleared n l k → n < length l → Cleared (n + 1) l (set k n 0)
cleared_more n l {k} c b = record {
  list = ap (λ (x : List ℕ). set x n 0) c.list ∙ filled_more (λ r. 0) n 0 l b refl;
  long = length-set k n 0 ∙ c.long;
}

-- An empty list has 0 for its first entry.
pub first_none : (l : List ℕ) → length l ≡ 0 → 0 ≡ at l 0
first_none [] e = refl
first_none (x ∷ l) e = absurd (omega arith)

-- Rows and state that have their place: past the clock's limit nothing fits,
pub rows_fit_late : (R : Rows) (time : List ℕ) (σ : State) → last_clock < σ.clock → rows_fit_in R time σ ≡ false
unfolding rows_fit_in rows_fit fits moment_of
rows_fit_late R time σ l = rw (lt-leb _ _ l, and_false (leb R.count (length time)), and_false (leb R.count most_rows), and_false (held R.count σ), and_false (stand R.count R.period R.first time))

-- and in it what counts is each row.
module _
    (R : Rows) (time : List ℕ) (σ : State) (a : stand R.count R.period R.first time ≡ true)
    (b : held R.count σ ≡ true) (c : σ.clock ≤ last_clock) where
  pub fitting : Fitting R.count R.period R.first time σ
  unfolding stand
  fitting =
      let d = and_right (leb R.count most_rows) _ a in
      let e = and_right (leb R.count (length R.period)) _ d in
      record {
        few = leb-true _ _ (and_left (leb R.count most_rows) _ a);
        period_long = leb-true _ _ (and_left (leb R.count (length R.period)) _ d);
        first_long = leb-true _ _ (and_left (leb R.count (length R.first)) _ e);
        time_long = leb-true _ _ (and_right (leb R.count (length R.first)) _ e);
        lists = held_long R.count σ b;
        clock_most = c;
      }

  pub rows_fit_each : rows_fit_in R time σ ≡ all R.count (row_fits (plan_from R.count R.period R.first [] [] time) (moment_of σ))
  unfolding rows_fit_in fits moment_of
  rows_fit_each =
      rw (a, b)
      (rows_fit_listed R time σ fitting.few fitting.time_long
      ∙ rw (le-leb _ _ c))
