-- The test of one row's fitting, in the parts in which it is made.
use Rattle.std.specs.Prelude.{ℕ, pred, ◌≤◌, ◌<◌, ◌≡◌, refl, Bool, true, false, ◌&&◌, List, [], length}
use Rattle.std.proofs.Common.{sym, ◌∙◌, ap, le-leb}
use Rattle.facts.specs.Tests.{all}
use Rattle.facts.specs.TestsLaws.{all_fails}
use Rattle.table.specs.Refusals.{last_clock}
use Rattle.table.specs.Plan.{Plan}
use Rattle.guards.specs.declared.state.State.{State}
use Rattle.guards.specs.Moment.{Moment, moment_of}
use Rattle.guards.specs.Running.{is_open}
use Rattle.guards.specs.Fits.{first_fits, later_fits, row_fits, fits}
use Rattle.guards.specs.Rows.{Rows, counts_fit, chain_fits, plan_from, rows_fit}

and_assoc : (a b c : Bool) → (a && b) && c ≡ a && (b && c)
and_assoc true b c = refl
and_assoc false b c = refl

pub row_fits_parts :
    (P : Plan) (m : Moment) (r : ℕ)
    → row_fits P m r ≡ counts_fit m.clock (m.released r) (m.completed r) (m.used r) (P.cost r) && chain_fits (P.first r) m.clock (P.period r) (m.released r) (m.guard r) (m.completed (pred r))
unfolding row_fits counts_fit is_open first_fits later_fits chain_fits
row_fits_parts P m r = rw (and_assoc, and_assoc, and_assoc)

-- A row that does not fit.
pub fits_fails : (P : Plan) (m : Moment) (r : ℕ) → m.clock ≤ last_clock → r < P.rows → row_fits P m r ≡ false → fits P m ≡ false
unfolding fits
fits_fails P m r c l e = rw (le-leb _ _ c) (all_fails P.rows (row_fits P m) r l e)

-- Every row fits.
pub fits_passes : (P : Plan) (m : Moment) (n : ℕ) → m.clock ≤ last_clock → n ≡ P.rows → all n (row_fits P m) ≡ true → fits P m ≡ true
unfolding fits
fits_passes P m n c e a = rw (le-leb _ _ c) (ap (λ (k : ℕ). all k (row_fits P m)) (sym e) ∙ a)

-- Rows that have their place in the lists.
pub rows_fit_listed :
    (R : Rows) (time : List ℕ) (σ : State) → R.count ≤ 128 → R.count ≤ length time
    → rows_fit R time σ ≡ fits (plan_from R.count R.period R.first [] [] time) (moment_of σ)
unfolding rows_fit
rows_fit_listed R time σ a b = rw (le-leb _ _ a, le-leb _ _ b)
