-- When the instances of a row are due.
use Prim.Native.Nat.{ℕ, zero, suc, ◌+◌}
use Rattle.std.specs.Prelude.{◌≡◌, true, false}
use Rattle.std.proofs.Math.Path.{refl}
use Rattle.table.specs.Plan.{Plan}
use Rattle.promise.specs.Due.{due}

module _ (P : Plan) (R : ℕ → ℕ) (A : ℕ → ℕ → ℕ) where
  pub due_first : (r i : ℕ) → P.first r ≡ true → due P R A r i ≡ A r i
  unfolding due
  due_first zero i e = refl
  due_first (suc r) i e = rw e

  pub due_next : (r i : ℕ) → P.first (suc r) ≡ false → due P R A (suc r) i ≡ due P R A r i + R r
  unfolding due
  due_next r i e = rw e
