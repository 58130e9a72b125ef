-- What the view of a table's rows leaves to the report.
use Rattle.std.specs.Prelude.{ℕ, ◌≤◌, ◌<◌, ◌≡◌, refl, Bool, true, false, List, [], length, Err, Ok}
use Rattle.std.proofs.Common.{subst, arith, le-leb}
use Rattle.facts.specs.FilledLaws.{get_d_filled, length_filled}
use Rattle.table.specs.declared.refusal.Refusal.{Refusal}
use Rattle.table.specs.Table.{Table, at, rows, is_plan}
use Rattle.table.specs.TableLaws.{checked}
use Rattle.table.specs.Plan.{plan_of}
use Rattle.planned.specs.View as view
use Rattle.report.specs.AnswersLaws.{value_same, refusal_same, differ}
use Rattle.report.specs.Reporting as reporting
use Rattle.report.specs.Reporting.{refused, Reported}

-- The table is a plan of n rows, and the list has the period of each.
pub record Viewed (T : Table) (n : ℕ) (periods : List ℕ) : Type 0 where
  pub plan : is_plan T ≡ true
  pub count : n ≡ rows T
  pub long : rows T ≤ length periods
  pub each : (r : ℕ) → r < rows T → at periods r ≡ (plan_of T).period r

-- The view shows the rows of a plan, or refuses a table that is none as the report does.
data Views (T : Table) (out : List ℕ) (v : view.Viewed) : Type 0 where
  shows : {n : ℕ} → v.answer ≡ Ok n → Viewed T n v.period → Views T out v
  refuses : {r : Refusal} → v.answer ≡ Err r → Reported T out (refused r out) → Views T out v

views :
    (T : Table) (out periods : List ℕ) (firsts : List Bool) → 128 ≤ length periods → 128 ≤ length firsts
    → Views T out (view.viewed T periods firsts)
unfolding view.viewed
views T out periods firsts a b = go (is_plan T) refl
  where
    go : (x : Bool) → is_plan T ≡ x → Views T out (view.viewed T periods firsts)
    go false n = rw n (refuses refl (reporting.no_plan n refl))
    go true plan =
        let few = (checked T plan).rows_most in
        rw (plan, le-leb (rows T) (length periods) (omega arith), le-leb (rows T) (length firsts) (omega arith))
        (shows refl (record {
          plan = plan;
          count = refl;
          long = omega (arith, length_filled (plan_of T).period (rows T) periods (omega arith));
          each = λ r l. get_d_filled (plan_of T).period (rows T) r 0 periods l;
        }))

-- What a call answered, in lists with room for any plan.
module _ (T : Table) (periods : List ℕ) (firsts : List Bool) {v : view.Viewed} (e : v ≡ view.viewed T periods firsts) (long : 128 ≤ length periods) (wide : 128 ≤ length firsts) where
  pub view_shows : {n : ℕ} → v.answer ≡ Ok n → Viewed T n v.period
  view_shows {n} s = go (rw e (views T [] periods firsts long wide))
    where
      go : Views T [] v → Viewed T n v.period
      go (shows d x) = subst (λ (k : ℕ). Viewed T k v.period) (value_same d s) x
      go (refuses d x) = absurd (differ s d)

  pub view_refuses : {r : Refusal} (out : List ℕ) → v.answer ≡ Err r → Reported T out (refused r out)
  view_refuses {r} out s = go (rw e (views T out periods firsts long wide))
    where
      go : Views T out v → Reported T out (refused r out)
      go (shows d x) = absurd (differ d s)
      go (refuses d x) = subst (λ (q : Refusal). Reported T out (refused q out)) (refusal_same d s) x
