-- What it says that a state fits a plan, as facts.
use Rattle.std.specs.Prelude.{ℕ, suc, pred, ◌+◌, ◌≤◌, ◌<◌, ◌≡◌, refl, ◌||◌, leb}
use Rattle.std.proofs.Math.Bool.{Bool, true, false, cond, not}
use Rattle.std.proofs.Common.{arith}
use borrow.Author.Tests.{ltb-true, ltb-false, leb-true, eqb-true, lt-ltb, le-ltb, le-leb, eq-eqb, not-false}
use Rattle.std.proofs.Math.Dec.{ltb, eqb}
use Rattle.facts.specs.TestsLaws.{and_left, and_right, and_true, all_at, all_of}
use Rattle.table.specs.Plan.{Plan}
use Rattle.table.specs.Refusals.{last_clock}
use Rattle.guards.specs.Moment.{Moment}
use Rattle.guards.specs.Running.{is_open}
use Rattle.guards.specs.Fits.{first_fits, later_fits, row_fits, fits}

-- Row r fits.
pub record RowFits (P : Plan) (m : Moment) (r : ℕ) : Type 0 where
  pub order : m.completed r ≤ m.released r
  pub few : m.released r ≤ suc m.clock
  pub within : m.used r < P.cost r
  pub settled : m.released r ≤ m.completed r → m.used r ≡ 0
  pub near : m.guard r ≤ m.clock + P.period r
  pub arrives : P.first r ≡ true → m.released r ≡ suc m.clock → m.clock < m.guard r
  pub after : P.first r ≡ false → m.released r ≤ m.completed (pred r)
  pub waits : P.first r ≡ false → m.released r < m.completed (pred r) → m.clock < m.guard r

-- The state fits.
pub record Fits (P : Plan) (m : Moment) : Type 0 where
  pub clock : m.clock ≤ last_clock
  pub row : (r : ℕ) → r < P.rows → RowFits P m r

-- Of two tests one of which passes, the second does where the first doesn't.
or_else : (a b : Bool) → a || b ≡ true → a ≡ false → b ≡ true
or_else a b t e = rw e at t

or_true : (a : Bool) {b : Bool} → (a ≡ false → b ≡ true) → a || b ≡ true
or_true true h = refl
or_true false h = h refl

module _ (P : Plan) (m : Moment) (r : ℕ) where
  first_fits_of : first_fits m r ≡ true → m.released r ≡ suc m.clock → m.clock < m.guard r
  unfolding first_fits
  first_fits_of t e =
      let q : eqb (m.released r) (m.clock + 1) ≡ true = eq-eqb (m.released r) (m.clock + 1) (omega arith) in
      ltb-true _ _ (or_else (not (eqb (m.released r) (m.clock + 1))) (ltb m.clock (m.guard r)) t (rw q))

  later_order : later_fits m r ≡ true → m.released r ≤ m.completed (pred r)
  unfolding later_fits
  later_order t = leb-true _ _ (and_left (leb (m.released r) (m.completed (pred r))) _ t)

  later_fits_of : later_fits m r ≡ true → m.released r < m.completed (pred r) → m.clock < m.guard r
  unfolding later_fits
  later_fits_of t h =
      let q : ltb (m.released r) (m.completed (pred r)) ≡ true = lt-ltb _ _ h in
      let s : not (ltb (m.released r) (m.completed (pred r))) || ltb m.clock (m.guard r) ≡ true = and_right (leb (m.released r) (m.completed (pred r))) _ t in
      ltb-true _ _ (or_else (not (ltb (m.released r) (m.completed (pred r)))) (ltb m.clock (m.guard r)) s (rw q))

  pub row_fits_of : row_fits P m r ≡ true → RowFits P m r
  unfolding row_fits is_open
  row_fits_of t =
      let t₁ = and_right (leb (m.completed r) (m.released r)) _ t in
      let t₂ = and_right (leb (m.released r) (m.clock + 1)) _ t₁ in
      let t₃ = and_right (ltb (m.used r) (P.cost r)) _ t₂ in
      let unused : Bool = ltb (m.completed r) (m.released r) || eqb (m.used r) 0 in
      let t₄ = and_right unused _ t₃ in
      let t₅ : cond (P.first r) (first_fits m r) (later_fits m r) ≡ true = and_right (leb (m.guard r) (m.clock + P.period r)) _ t₄ in
      record {
        order = leb-true _ _ (and_left (leb (m.completed r) (m.released r)) _ t);
        few = omega (arith, leb-true (m.released r) (m.clock + 1) (and_left (leb (m.released r) (m.clock + 1)) _ t₁));
        within = ltb-true _ _ (and_left (ltb (m.used r) (P.cost r)) _ t₂);
        settled = λ h. eqb-true _ _ (or_else (ltb (m.completed r) (m.released r)) (eqb (m.used r) 0) (and_left unused _ t₃) (le-ltb _ _ h));
        near = leb-true _ _ (and_left (leb (m.guard r) (m.clock + P.period r)) _ t₄);
        arrives = λ e. first_fits_of (rw e at t₅);
        after = λ e. later_order (rw e at t₅);
        waits = λ e. later_fits_of (rw e at t₅);
      }

  first_fits_true : (m.released r ≡ suc m.clock → m.clock < m.guard r) → first_fits m r ≡ true
  unfolding first_fits
  first_fits_true h =
      or_true (not (eqb (m.released r) (m.clock + 1)))
      (λ e. lt-ltb _ _ (h (omega (arith, eqb-true (m.released r) (m.clock + 1) (not-false _ e)))))

  later_fits_true :
      m.released r ≤ m.completed (pred r) → (m.released r < m.completed (pred r) → m.clock < m.guard r)
      → later_fits m r ≡ true
  unfolding later_fits
  later_fits_true a h =
      and_true (le-leb _ _ a)
      (or_true (not (ltb (m.released r) (m.completed (pred r)))) (λ e. lt-ltb _ _ (h (ltb-true _ _ (not-false _ e)))))

  pub row_fits_true : RowFits P m r → row_fits P m r ≡ true
  unfolding row_fits is_open
  row_fits_true f =
      and_true (le-leb _ _ f.order)
      (and_true (le-leb (m.released r) (m.clock + 1) (omega (arith, f.few)))
      (and_true (lt-ltb _ _ f.within)
      (and_true (or_true (ltb (m.completed r) (m.released r)) (λ e. eq-eqb _ _ (f.settled (ltb-false _ _ e))))
      (and_true (le-leb _ _ f.near) (kind (P.first r) refl)))))
    where
      kind : (b : Bool) → P.first r ≡ b → cond b (first_fits m r) (later_fits m r) ≡ true
      kind true e = first_fits_true (f.arrives e)
      kind false e = later_fits_true (f.after e) (f.waits e)

module _ (P : Plan) (m : Moment) where
  pub fits_of : fits P m ≡ true → Fits P m
  unfolding fits
  fits_of t = record {
    clock = leb-true _ _ (and_left (leb m.clock last_clock) _ t);
    row = λ r l. row_fits_of P m r (all_at P.rows (row_fits P m) (and_right (leb m.clock last_clock) _ t) r l);
  }

  pub fits_true : Fits P m → fits P m ≡ true
  unfolding fits
  fits_true f = and_true (le-leb _ _ f.clock) (all_of P.rows (row_fits P m) (λ r l. row_fits_true P m r (f.row r l)))
