-- The byte of a test.
use Rattle.std.specs.Prelude.{◌≡◌, refl, Bool, true, false, cond}
use mir.Val.{bool_byte}

pub byte_of : (b : Bool) → bool_byte b ≡ cond b 1 0
byte_of true = refl
byte_of false = refl
