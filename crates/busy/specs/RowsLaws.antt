-- What viewing a table's rows into lists of 128 entries comes to.
use Rattle.std.specs.Prelude.{◌≡◌, refl, Bool, true, false, List, ℕ, leb, length, Err, Ok}
use Rattle.std.proofs.Common.{ap, sym, ◌∙◌, arith, le-leb}
use Rattle.facts.specs.Filled.{filled}
use Rattle.table.specs.declared.refusal.Refusal.{Refusal}
use Rattle.table.specs.declared.refusal.Refusal.TheVariants.{NotAPlan}
use Rattle.table.specs.Table.{Table, rows, is_plan}
use Rattle.table.specs.TableLaws.{checked}
use Rattle.table.specs.Plan.{plan_of}
use Rattle.planned.specs.View.{Viewed, viewed}
use Rattle.busy.specs.Rows.{Viewing, plan, none}

-- The answer's rows, and with them the filled periods; or the refusal.
pub data Seen (T : Table) (before : List ℕ) (v : Viewed) : Type 0 where
  seen : is_plan T ≡ true → v.answer ≡ Ok (rows T) → v.period ≡ filled (plan_of T).period (rows T) before → Seen T before v
  unseen : is_plan T ≡ false → v.answer ≡ Err NotAPlan → Seen T before v

pub viewed_seen :
    (T : Table) (period : List ℕ) (first : List Bool) → length period ≡ 128 → length first ≡ 128 → (v : Viewed) → v ≡ viewed T period first
    → Seen T period v
unfolding viewed
viewed_seen T period first zp zf v e = go (is_plan T) refl
  where
    go : (x : Bool) → is_plan T ≡ x → Seen T period v
    go true t =
        let ok = checked T t in
        let a : leb (rows T) (length period) ≡ true = le-leb (rows T) (length period) (omega (arith, ok.rows_most)) in
        let b : leb (rows T) (length first) ≡ true = le-leb (rows T) (length first) (omega (arith, ok.rows_most)) in
        seen t (ap (λ (x : Viewed). x.answer) e ∙ rw (t, a, b)) (ap (λ (x : Viewed). x.period) e ∙ rw (t, a, b))
    go false t = unseen t (ap (λ (x : Viewed). x.answer) e ∙ rw t)

module _
    (T : Table) (period : List ℕ) (first : List Bool) (zp : length period ≡ 128) (zf : length first ≡ 128)
    {v : Viewed} (e : v ≡ viewed T period first) where
  -- Rows are answered: they are the plan's.
  pub viewing_rows : (n : ℕ) → v.answer ≡ Ok n → Viewing T period v.period n
  viewing_rows n a = go (viewed_seen T period first zp zf v e)
    where
      go : Seen T period v → Viewing T period v.period n
      go (seen t b p) = plan t (let same : Ok n ≡ Ok (rows T) = sym a ∙ b in cc) p
      go (unseen t b) = let z : ◌≡◌ {A = ℕ} 0 1 = cc in absurd (omega arith)

  -- A refusal is answered: it is no plan.
  pub viewing_none : (r : Refusal) → v.answer ≡ Err r → Viewing T period v.period 0
  viewing_none r a = go (viewed_seen T period first zp zf v e)
    where
      go : Seen T period v → Viewing T period v.period 0
      go (seen t b p) = let z : ◌≡◌ {A = ℕ} 0 1 = cc in absurd (omega arith)
      go (unseen t b) = none t refl
