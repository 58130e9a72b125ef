-- Any two outcomes that a contract of this crate allows for one input are equal.
use Rattle.std.specs.Prelude.{ℕ, ◌≡◌, Bool, true, false, List, Result, Ok, Err}
use Rattle.std.proofs.Common.{sym, ◌∙◌, ap, arith}
use Rattle.facts.specs.OutcomesLaws.{equation_one}
use Rattle.table.specs.Table.{Table, is_plan, long_enough}
use Rattle.table.specs.declared.refusal.Refusal.{Refusal}
use Rattle.planned.specs.Counted.{Counted}
use Rattle.planned.specs.View.{Viewed, viewed}

pub long_enough_one : (n : ℕ) (a b c : List ℕ) {x y : Bool} → x ≡ long_enough n a b c → y ≡ long_enough n a b c → x ≡ y
long_enough_one n a b c = equation_one

pub is_plan_one : (T : Table) {x y : Bool} → x ≡ is_plan T → y ≡ is_plan T → x ≡ y
is_plan_one T = equation_one

pub view_rows_one : (T : Table) (p : List ℕ) (f : List Bool) {x y : Viewed} → x ≡ viewed T p f → y ≡ viewed T p f → x ≡ y
view_rows_one T p f = equation_one

clash : ◌≡◌ {A = Bool} true false → ⊥
clash e = let z : ◌≡◌ {A = ℕ} 0 1 = cc in omega arith

pub count_rows_one : (T : Table) (x y : Result ℕ Refusal) → Counted T x → Counted T y → x ≡ y
count_rows_one T (Ok m) (Ok n) a b = ap Ok (a.1 ∙ sym b.1)
count_rows_one T (Ok m) (Err r) a b = absurd (clash (sym a.0 ∙ b.1))
count_rows_one T (Err r) (Ok n) a b = absurd (clash (sym b.0 ∙ a.1))
count_rows_one T (Err r) (Err s) a b = ap Err (a.0 ∙ sym b.0)
