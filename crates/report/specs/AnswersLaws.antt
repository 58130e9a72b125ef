-- An answer is one value or one refusal.
use Rattle.std.specs.Prelude.{ℕ, ◌≡◌, Err, Ok, Result}
use Rattle.std.proofs.Common.{arith}
use Rattle.table.specs.declared.refusal.Refusal.{Refusal}

module _ {A : Type 0} {a : Result A Refusal} where
  pub value_same : {x y : A} → a ≡ Ok x → a ≡ Ok y → x ≡ y
  value_same d e = cc

  pub refusal_same : {r s : Refusal} → a ≡ Err r → a ≡ Err s → r ≡ s
  refusal_same d e = cc

  pub differ : {x : A} {r : Refusal} → a ≡ Ok x → a ≡ Err r → ⊥
  differ d e = let z : ◌≡◌ {A = ℕ} 0 1 = cc in omega arith
