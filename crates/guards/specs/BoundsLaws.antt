-- The numbers of a state that fits are small.
use Rattle.std.specs.Prelude.{ℕ, ◌+◌, ◌≤◌, ◌<◌, ◌≡◌, true, leb, ltb}
use borrow.Author.Tests.{leb-true, ltb-true}
use Rattle.facts.specs.TestsLaws.{and_left, and_right, all_at}
use Rattle.table.specs.Plan.{Plan}
use Rattle.table.specs.Refusals.{last_clock}
use Rattle.guards.specs.Moment.{Moment}
use Rattle.guards.specs.Fits.{row_fits, fits}

-- The clock, and of each row of the plan the instances and used ticks.
pub record Bounded (P : Plan) (m : Moment) : Type 0 where
  pub clock : m.clock ≤ last_clock
  pub completed : (r : ℕ) → r < P.rows → m.completed r ≤ m.released r
  pub released : (r : ℕ) → r < P.rows → m.released r ≤ m.clock + 1
  pub used : (r : ℕ) → r < P.rows → m.used r < P.cost r

module _ (P : Plan) (m : Moment) (e : fits P m ≡ true) where
  in_limit : leb m.clock last_clock ≡ true
  unfolding fits
  in_limit = and_left (leb m.clock last_clock) _ e

  row_fits_at : (r : ℕ) → r < P.rows → row_fits P m r ≡ true
  unfolding fits
  row_fits_at r l = all_at P.rows (row_fits P m) (and_right (leb m.clock last_clock) _ e) r l

  pub bounded : Bounded P m
  unfolding row_fits
  bounded = record {
    clock = leb-true _ _ in_limit;
    completed = λ r l. leb-true _ _ (and_left (leb (m.completed r) (m.released r)) _ (row_fits_at r l));
    released = λ r l. leb-true _ _ (and_left (leb (m.released r) (m.clock + 1)) _ (and_right (leb (m.completed r) (m.released r)) _ (row_fits_at r l)));
    used = λ r l. ltb-true _ _ (and_left (ltb (m.used r) (P.cost r)) _ (and_right (leb (m.released r) (m.clock + 1)) _ (and_right (leb (m.completed r) (m.released r)) _ (row_fits_at r l))));
  }
