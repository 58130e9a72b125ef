-- What is said of the rows of a plan depends on its rows alone.
use Rattle.std.specs.Prelude.{ℕ, ◌<◌, ◌≡◌, Bool, ◌&&◌}
use Rattle.std.proofs.Common.{sym, ◌∙◌}
use Rattle.std.proofs.Math.Path.{ap}
use Rattle.std.proofs.Math.Dec.{leb}
use Rattle.facts.specs.Tests.{all}
use Rattle.facts.specs.TestsLaws.{all_ext}
use Rattle.table.specs.Plan.{Plan}
use Rattle.table.specs.Refusals.{last_clock}
use Rattle.guards.specs.Moment.{Moment}
use Rattle.guards.specs.Fits.{row_fits, fits}

-- Fitting reads periods, costs and which rows are first.
module _ (P Q : Plan) (m : Moment) where
  row_fits_ext :
      (r : ℕ) → P.period r ≡ Q.period r → P.cost r ≡ Q.cost r → P.first r ≡ Q.first r
      → row_fits P m r ≡ row_fits Q m r
  unfolding row_fits
  row_fits_ext r a b c = rw (a, b, c)

  pub fits_ext :
      {n : ℕ} → P.rows ≡ n → Q.rows ≡ n
      → ((r : ℕ) → r < n → (P.period r ≡ Q.period r) × (P.cost r ≡ Q.cost r) × (P.first r ≡ Q.first r))
      → fits P m ≡ fits Q m
  unfolding fits
  fits_ext {n} p q h =
      let a : all P.rows (row_fits P m) ≡ all n (row_fits P m) = ap (λ (k : ℕ). all k (row_fits P m)) p in
      let b : all n (row_fits P m) ≡ all n (row_fits Q m) = all_ext n (λ r l. row_fits_ext r (h r l).0 (h r l).1 (h r l).2) in
      let c : all n (row_fits Q m) ≡ all Q.rows (row_fits Q m) = ap (λ (k : ℕ). all k (row_fits Q m)) (sym q) in
      ap (λ (x : Bool). leb m.clock last_clock && x) (a ∙ b ∙ c)
