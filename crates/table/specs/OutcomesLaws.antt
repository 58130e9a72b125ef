-- Any two outcomes that a contract of this crate allows for one input are equal.
use Rattle.std.specs.Prelude.{ℕ, ◌≡◌, Bool, List}
use Rattle.facts.specs.OutcomesLaws.{equation_one}
use Rattle.table.specs.declared.refusal.Refusal.{Refusal}
use Rattle.table.specs.Plan.{deadline_from}
use Rattle.table.specs.Ranges.{in_range}
use Rattle.table.specs.Refusals.{number_of, place_of, refusal_line}

pub in_range_one : (key own value : ℕ) {x y : Bool} → x ≡ in_range key own value → y ≡ in_range key own value → x ≡ y
in_range_one key own value = equation_one

pub number_of_one : (refusal : Refusal) {x y : ℕ} → x ≡ number_of refusal → y ≡ number_of refusal → x ≡ y
number_of_one refusal = equation_one

pub place_of_one : (refusal : Refusal) {x y : ℕ} → x ≡ place_of refusal → y ≡ place_of refusal → x ≡ y
place_of_one refusal = equation_one

pub refusal_line_one :
    (refusal : Refusal) {x y : List ℕ} → x ≡ refusal_line refusal → y ≡ refusal_line refusal → x ≡ y
refusal_line_one refusal = equation_one

pub in_force_one :
    (period deadline : ℕ) {x y : ℕ} → x ≡ deadline_from period deadline → y ≡ deadline_from period deadline → x ≡ y
in_force_one period deadline = equation_one
