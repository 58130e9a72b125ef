-- What viewing a table's rows into lists of 128 entries says of the plan.
use Rattle.std.specs.Prelude.{ℕ, ◌≡◌, Bool, true, false, List, length, Ok, Err}
use Rattle.std.proofs.Math.Path.{refl}
use Rattle.std.proofs.Common.{sym, ◌∙◌, ap, subst, le-leb, arith}
use Rattle.table.specs.Table.{Table, rows, is_plan}
use Rattle.table.specs.TableLaws.{checked}
use Rattle.table.specs.declared.refusal.Refusal.{Refusal}
use Rattle.table.specs.declared.refusal.Refusal.TheVariants.{NotAPlan}
use Rattle.planned.specs.View.{Viewed, viewed}
use Rattle.guards.specs.Rows.{Rows, rows_in}
use Rattle.guards.specs.RowsLaws.{RowsOf, rows_are}

module _ (T : Table) (periods : List ℕ) (firsts : List Bool) {v : Viewed} (e : v ≡ viewed T periods firsts) (p : length periods ≡ 128) (f : length firsts ≡ 128) where
  -- Rows are answered: they are the plan's.
  pub view_plan : (n : ℕ) → v.answer ≡ Ok n → RowsOf T (record { count = n; period = v.period; first = v.first })
  unfolding viewed rows_in
  view_plan n a = go (is_plan T) refl
    where
      same : rows_in T periods firsts ≡ record { count = n; period = v.period; first = v.first }
      same = rw (← e, a)

      go : (b : Bool) → is_plan T ≡ b → RowsOf T (record { count = n; period = v.period; first = v.first })
      go true q = subst (λ (S : Rows). RowsOf T S) same (rows_are T periods firsts p f q)
      go false q =
          let b : v.answer ≡ Err NotAPlan = ap (λ (w : Viewed). w.answer) e ∙ rw q in
          let z : ◌≡◌ {A = ℕ} 0 1 = cc in
          absurd (omega arith)

  -- A refusal is answered: it is 5, and the table is no plan.
  pub view_none : (r : Refusal) → v.answer ≡ Err r → (is_plan T ≡ false) × (r ≡ NotAPlan)
  unfolding viewed
  view_none r a = go (is_plan T) refl
    where
      go : (b : Bool) → is_plan T ≡ b → (is_plan T ≡ false) × (r ≡ NotAPlan)
      go true q =
          let few = (checked T q).rows_most in
          let k = le-leb (rows T) (length periods) (omega (arith, few, p)) in
          let l = le-leb (rows T) (length firsts) (omega (arith, few, f)) in
          let b : v.answer ≡ Ok (rows T) = ap (λ (w : Viewed). w.answer) e ∙ rw (q, k, l) in
          let z : ◌≡◌ {A = ℕ} 0 1 = cc in
          absurd (omega arith)
      go false q =
          let b : v.answer ≡ Err NotAPlan = ap (λ (w : Viewed). w.answer) e ∙ rw q in
          (q, let same : Err r ≡ Err NotAPlan = sym a ∙ b in cc)
