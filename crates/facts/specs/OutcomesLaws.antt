-- An outcome that a contract gives by one equation is the only one it allows.
use Rattle.std.specs.Prelude.{◌≡◌}
use Rattle.std.proofs.Common.{sym, ◌∙◌}

pub equation_one : {A : Type 0} {outcome x y : A} → x ≡ outcome → y ≡ outcome → x ≡ y
equation_one e f = e ∙ sym f
