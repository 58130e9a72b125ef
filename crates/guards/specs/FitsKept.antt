-- Every call keeps a state that fits a state that fits, seen as what the calls do to a moment.
use Rattle.std.specs.Prelude.{ℕ, zero, suc, pred, ◌+◌, ◌≤◌, ◌<◌, ◌≡◌, refl, true, false}
use native.Mathlib.Omega.{arith, by_contra}
use Rattle.facts.specs.TestsLaws.{clash}
use Rattle.table.specs.Plan.{Plan}
use Rattle.table.specs.PlanLaws.{Right}
use Rattle.table.specs.Refusals.{last_clock}
use Rattle.guards.specs.Moment.{Moment}
use Rattle.guards.specs.Machine.{start}
use Rattle.guards.specs.Seam.{Work, Gate, Ticked, Entry, Arrived, Same}
use Rattle.guards.specs.SeamLaws.{entry}
use Rattle.guards.specs.FitsLaws.{RowFits, Fits}

pub fits_start : {P : Plan} → Right P → Fits P start
unfolding start
fits_start ok = record {
  clock = omega arith;
  row = λ r l. record {
    order = omega arith;
    few = omega arith;
    within = ok.cost_pos r l;
    settled = λ h. refl;
    near = omega arith;
    arrives = λ e h. absurd (omega arith);
    after = λ e. omega arith;
    waits = λ e h. absurd (omega arith);
  };
}

module _ {P : Plan} (ok : Right P) {m n : Moment} (fits : Fits P m) (t : Ticked P m n) where
  -- What holds of a row's work after steps 1 to 3 of a tick, before step 5 releases anything.
  pub worked_within : (r : ℕ) → r < P.rows → n.used r < P.cost r
  worked_within r l = go (t.work r l)
    where
      go : Work P m n r → n.used r < P.cost r
      go (Work.kept a b) = omega (arith, (fits.row r l).within)
      go (Work.ran a b c d) = d
      go (Work.ended a b c) = omega (arith, ok.cost_pos r l)

  pub worked_order : (r : ℕ) → r < P.rows → (m.completed r ≤ n.completed r) × (n.completed r ≤ m.released r)
  worked_order r l = go (t.work r l)
    where
      go : Work P m n r → (m.completed r ≤ n.completed r) × (n.completed r ≤ m.released r)
      go (Work.kept a b) = omega (arith, (fits.row r l).order)
      go (Work.ran a b c d) = omega arith
      go (Work.ended a b c) = omega arith

  pub worked_settled : (r : ℕ) → r < P.rows → m.released r ≤ n.completed r → n.used r ≡ 0
  worked_settled r l h = go (t.work r l)
    where
      go : Work P m n r → n.used r ≡ 0
      go (Work.kept a b) = omega (arith, (fits.row r l).settled (omega arith))
      go (Work.ran a b c d) = absurd (omega arith)
      go (Work.ended a b c) = c

  -- The row before a row that isn't first keeps what it has completed.
  before_order : (r : ℕ) → r < P.rows → P.first r ≡ false → m.completed (pred r) ≤ n.completed (pred r)
  before_order zero l e = absurd (clash ok.first_zero e)
  before_order (suc r) l e = (worked_order r (omega arith)).0

  -- A tick releases at most one instance of a row.
  released_once : (r : ℕ) → r < P.rows → (m.released r ≤ n.released r) × (n.released r ≤ suc (m.released r))
  released_once r l = go (t.gate r l)
    where
      go : Gate P m n r → (m.released r ≤ n.released r) × (n.released r ≤ suc (m.released r))
      go (Gate.kept a b c) = omega arith
      go (Gate.lowered a q b c d) = omega arith
      go (Gate.lets_go a b c d e) = omega arith

  row_ticked : (r : ℕ) → r < P.rows → RowFits P n r
  row_ticked r l = record {
    order = omega (arith, worked_order r l, released_once r l);
    few = omega (arith, t.clock, f.few, released_once r l);
    within = worked_within r l;
    settled = λ h. worked_settled r l (omega (arith, released_once r l));
    near = near (t.gate r l);
    arrives = λ e h. arrives (t.gate r l) e h;
    after = λ e. after (t.gate r l) e;
    waits = λ e h. waits (t.gate r l) e h;
  }
    where
      f : RowFits P m r
      f = fits.row r l

      near : Gate P m n r → n.guard r ≤ n.clock + P.period r
      near (Gate.kept a b c) = omega (arith, t.clock, f.near)
      near (Gate.lowered a q b c d) = omega arith
      near (Gate.lets_go a b c d e) = omega arith

      arrives : Gate P m n r → P.first r ≡ true → n.released r ≡ suc n.clock → n.clock < n.guard r
      arrives (Gate.kept a b c) e h = absurd (omega (arith, t.clock, f.few))
      arrives (Gate.lowered a q b c d) e h = absurd (clash e a)
      arrives (Gate.lets_go a b c d g) e h = absurd (clash e a)

      after : Gate P m n r → P.first r ≡ false → n.released r ≤ n.completed (pred r)
      after (Gate.kept a b c) e = omega (arith, f.after e, before_order r l e)
      after (Gate.lowered a q b c d) e = omega (arith, f.after e, before_order r l e)
      after (Gate.lets_go a b c d g) e = omega arith

      waits : Gate P m n r → P.first r ≡ false → n.released r < n.completed (pred r) → n.clock < n.guard r
      waits (Gate.kept a b c) e h = c e (omega arith)
      waits (Gate.lowered a q b c d) e h = absurd (omega arith)
      waits (Gate.lets_go a b c d g) e h = omega (arith, ok.period_pos r l)

  pub fits_ticked : m.clock < last_clock → Fits P n
  fits_ticked h = record { clock = omega (arith, t.clock); row = row_ticked }

module _ {P : Plan} (ok : Right P) {m n : Moment} (fits : Fits P m) {f : ℕ} (first : P.first f ≡ true)
    (shut_no_more : m.guard f ≤ m.clock) (a : Arrived P m n f) where
  -- A row that isn't first has nothing to do with it.
  pub later_stays : (r : ℕ) → P.first r ≡ false → (n.released r ≡ m.released r) × (n.guard r ≡ m.guard r)
  later_stays r e = a.others r (λ q. clash (rw q first) e)

  row_arrived : (r : ℕ) → r < P.rows → RowFits P n r
  row_arrived r l = go (entry a r)
    where
      g : RowFits P m r
      g = fits.row r l

      go : Entry P m n f r → RowFits P n r
      go (Entry.other x y) = record {
        order = omega (arith, a.completed r, g.order);
        few = omega (arith, a.clock, g.few);
        within = omega (arith, a.used r, g.within);
        settled = λ h. omega (arith, a.used r, g.settled (omega (arith, a.completed r)));
        near = omega (arith, a.clock, g.near);
        arrives = λ e h. omega (arith, a.clock, g.arrives e (omega (arith, a.clock)));
        after = λ e. omega (arith, a.completed (pred r), g.after e);
        waits = λ e h. omega (arith, a.clock, g.waits e (omega (arith, a.completed (pred r))));
      }
      go (Entry.this q x y) =
          let e : P.first r ≡ true = rw q first in
          let h : m.guard r ≤ m.clock = rw q shut_no_more in
          record {
            order = omega (arith, a.completed r, g.order);
            few =
                by_contra (n.released r) (suc n.clock)
                (λ b. omega (arith, a.clock, g.arrives e (omega (arith, a.clock, g.few))));
            within = omega (arith, a.used r, g.within);
            settled = λ h. omega (arith, a.used r, g.settled (omega (arith, a.completed r)));
            near = omega (arith, a.clock);
            arrives = λ d h. omega (arith, a.clock, ok.period_pos r l);
            after = λ d. absurd (clash e d);
            waits = λ d. absurd (clash e d);
          }

  pub fits_arrived : Fits P n
  fits_arrived = record { clock = omega (arith, a.clock, fits.clock); row = row_arrived }

-- Fitting depends on the plan's rows alone.
pub fits_same : {P : Plan} → Right P → {m n : Moment} → Same P m n → Fits P m → Fits P n
fits_same {P} ok {m} {n} s f = record { clock = omega (arith, s.clock, f.clock); row = row }
  where
    before : (r : ℕ) → r < P.rows → P.first r ≡ false → n.completed (pred r) ≡ m.completed (pred r)
    before zero l e = absurd (clash ok.first_zero e)
    before (suc r) l e = s.completed r (omega arith)

    row : (r : ℕ) → r < P.rows → RowFits P n r
    row r l =
        let g : RowFits P m r = f.row r l in
        let released : n.released r ≡ m.released r = s.released r l in
        let completed : n.completed r ≡ m.completed r = s.completed r l in
        let guard : n.guard r ≡ m.guard r = s.guard r l in
        let clock : n.clock ≡ m.clock = s.clock in
        record {
          order = omega (arith, g.order);
          few = omega (arith, g.few);
          within = omega (arith, s.used r l, g.within);
          settled = λ h. omega (arith, s.used r l, g.settled (omega arith));
          near = omega (arith, g.near);
          arrives = λ e h. omega (arith, g.arrives e (omega arith));
          after = λ e. omega (arith, before r l e, g.after e);
          waits = λ e h. omega (arith, g.waits e (omega (arith, before r l e)));
        }
