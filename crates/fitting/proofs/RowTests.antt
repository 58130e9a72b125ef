-- The tests of one row, and what they say of the whole.
use Rattle.std.specs.Prelude.{ℕ, pred, ◌+◌, ◌<◌, ◌≡◌, Bool, true, false, ◌&&◌, List, [], get_or, leb}
use Rattle.std.proofs.Common.{sym, ◌∙◌}
use Rattle.facts.specs.Tests.{all}
use Rattle.facts.specs.TestsLaws.{all_more, all_fails}
use Rattle.table.specs.Table.{at}
use Rattle.guards.specs.declared.state.State.{State}
use Rattle.guards.specs.Moment.{moment_of}
use Rattle.guards.specs.Fits.{row_fits}
use Rattle.guards.specs.Rows.{Rows, counts_fit, chain_fits, plan_from}
use Rattle.guards.specs.PartsLaws.{row_fits_parts}
use Rattle.fitting.specs.Chains.{releases_fit}

abbrev pub counts_of : List ℕ → State → ℕ → Bool
counts_of time σ r = counts_fit σ.clock (at σ.released r) (at σ.completed r) (at σ.used r) (at time r)

abbrev pub guard_of : Rows → State → ℕ → Bool
guard_of R σ r = leb (at σ.guard r) (σ.clock + at R.period r)

abbrev pub releases_of : Rows → State → ℕ → Bool
releases_of R σ r = releases_fit (get_or R.first r false) σ.clock (at σ.released r) (at σ.guard r) (at σ.completed (pred r))

-- The first n rows fit.
abbrev pub rows_fitting : ℕ → Rows → List ℕ → State → Bool
rows_fitting n R time σ = all n (row_fits (plan_from R.count R.period R.first [] [] time) (moment_of σ))

module _ (R : Rows) (time : List ℕ) (σ : State) (r : ℕ) where
  test : row_fits (plan_from R.count R.period R.first [] [] time) (moment_of σ) r ≡ counts_of time σ r && (guard_of R σ r && releases_of R σ r)
  unfolding moment_of chain_fits releases_fit
  test = row_fits_parts (plan_from R.count R.period R.first [] [] time) (moment_of σ) r

  pub counts_wrong : r < R.count → counts_of time σ r ≡ false → false ≡ rows_fitting R.count R time σ
  counts_wrong l e = sym (all_fails R.count _ r l (test ∙ rw e))

  module _ (c : counts_of time σ r ≡ true) where
    pub guard_wrong : r < R.count → guard_of R σ r ≡ false → false ≡ rows_fitting R.count R time σ
    guard_wrong l e = sym (all_fails R.count _ r l (test ∙ rw (c, e)))

    pub releases_wrong : r < R.count → guard_of R σ r ≡ true → releases_of R σ r ≡ false → false ≡ rows_fitting R.count R time σ
    releases_wrong l e f = sym (all_fails R.count _ r l (test ∙ rw (c, e, f)))

    pub row_right : rows_fitting r R time σ ≡ true → guard_of R σ r ≡ true → releases_of R σ r ≡ true → rows_fitting (r + 1) R time σ ≡ true
    row_right a e f = all_more r (row_fits (plan_from R.count R.period R.first [] [] time) (moment_of σ)) a (test ∙ rw (c, e, f))
