-- What the rows in their lists say of the plan.
use Rattle.std.specs.Prelude.{ℕ, ◌≤◌, ◌<◌, ◌≡◌, Bool, true, List, length, get_or}
use Rattle.std.proofs.Math.Path.{refl}
use Rattle.std.proofs.Common.{sym, ◌∙◌, ap, subst, arith}
use Rattle.std.proofs.Math.Bool.{false}
use borrow.Author.Tests.{le-leb}
use Rattle.facts.specs.FilledLaws.{get_d_filled, length_filled}
use Rattle.table.specs.Table.{Table, at, rows, is_plan}
use Rattle.table.specs.TableLaws.{Checked, checked}
use Rattle.table.specs.Plan.{plan_of, cost}
use Rattle.table.specs.PlanLaws.{small_of}
use Rattle.planned.specs.View.{viewed}
use Rattle.guards.specs.declared.state.State.{State}
use Rattle.guards.specs.Moment.{moment_of}
use Rattle.guards.specs.Fits.{fits}
use Rattle.guards.specs.AlikeLaws.{fits_ext}
use Rattle.guards.specs.PartsLaws.{rows_fit_listed}
use Rattle.guards.specs.Rows.{Rows, rows_in, rows_fit}

rows_some : (T : Table) → Checked T → 0 < rows T
unfolding plan_of
rows_some T ok = (small_of T ok).some

-- The rows are those of the plan T.
pub record RowsOf (T : Table) (R : Rows) : Type 0 where
  pub plan : is_plan T ≡ true
  pub count : R.count ≡ rows T
  pub period_long : rows T ≤ length R.period
  pub first_long : rows T ≤ length R.first
  pub period : (r : ℕ) → r < rows T → at R.period r ≡ (plan_of T).period r
  pub first : (r : ℕ) → r < rows T → get_or R.first r false ≡ (plan_of T).first r

-- Lists of 128 are long enough for any plan's rows.
module _ (T : Table) (periods : List ℕ) (firsts : List Bool) where
  pub rows_are : length periods ≡ 128 → length firsts ≡ 128 → is_plan T ≡ true → RowsOf T (rows_in T periods firsts)
  unfolding rows_in viewed
  rows_are p f q =
      let few = (checked T q).rows_most in
      let a = le-leb (rows T) (length periods) (omega (arith, few, p)) in
      let b = le-leb (rows T) (length firsts) (omega (arith, few, f)) in
      record {
        plan = q;
        count = rw (q, a, b);
        period_long = rw (q, a, b) (omega (arith, few, p, length_filled (plan_of T).period (rows T) periods (omega (arith, few, p))));
        first_long = rw (q, a, b) (omega (arith, few, f, length_filled (plan_of T).first (rows T) firsts (omega (arith, few, f))));
        period = λ r l. rw (q, a, b) (get_d_filled _ _ _ _ _ l);
        first = λ r l. rw (q, a, b) (get_d_filled _ _ _ _ _ l);
      }

  module _ {R : Rows} (e : R ≡ rows_in T periods firsts) (p : length periods ≡ 128) (f : length firsts ≡ 128) where
    -- A table that is no plan has no rows,
    pub no_plan : R.count ≡ 0 → is_plan T ≡ false
    no_plan z = go (is_plan T) refl
      where
        go : (b : Bool) → is_plan T ≡ b → b ≡ false
        go false q = refl
        go true q =
            absurd (omega (arith, rows_some T (checked T q), (rows_are p f q).count, ap (λ (R : Rows). R.count) e))

    -- and one that is has its own.
    pub plan_rows : (R.count ≡ 0 → ⊥) → RowsOf T R
    unfolding rows_in viewed
    plan_rows n = go (is_plan T) refl
      where
        none : is_plan T ≡ false → (rows_in T periods firsts).count ≡ 0
        none q = rw q

        go : (b : Bool) → is_plan T ≡ b → RowsOf T R
        go true q = subst (λ (S : Rows). RowsOf T S) (sym e) (rows_are p f q)
        go false q = absurd (n (ap (λ (R : Rows). R.count) e ∙ none q))

-- The lists say of fitting what the plan says.
pub rows_fit_plan : {T : Table} {R : Rows} → RowsOf T R → (σ : State) → rows_fit R T.time σ ≡ fits (plan_of T) (moment_of σ)
unfolding plan_of cost
rows_fit_plan {T} {R} o σ =
    let ok : Checked T = checked T o.plan in
    rows_fit_listed R T.time σ (omega (arith, o.count, ok.rows_most)) (omega (arith, o.count, ok.row_lists.three))
    ∙ (fits_ext _ (plan_of T) (moment_of σ) o.count refl (λ r l. (o.period r l, refl, o.first r l)))
