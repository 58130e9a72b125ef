-- A tick after which a row of the level is still open keeps the window where it began.
use Prim.Native.Nat.{ℕ, suc, ◌+◌, ◌*◌, ◌-◌, ◌≤◌, ◌<◌}
use Rattle.std.specs.Prelude.{◌≡◌, ◌⊎◌}
use Rattle.std.proofs.Common.{ap, sym, ◌∙◌, inl, inr, arith}
use Rattle.std.proofs.Math.Nat.{mul-le-mul_right}
use Rattle.std.proofs.Math.Decide.{dec_le}
use Rattle.facts.specs.Rounding.{ceil}
use Rattle.facts.specs.RoundingLaws.{ceil_count}
use Rattle.table.specs.Plan.{Plan}
use Rattle.table.specs.PlanLaws.{Right}
use Rattle.guards.specs.Moment.{Moment}
use Rattle.guards.specs.Seam.{Open, Quiet, Gate, Moved, Turn, Ticked}
use Rattle.guards.specs.FitsLaws.{Fits}
use Rattle.guards.specs.FitsKept.{worked_within, worked_order}
use Rattle.equations.specs.Beside.{demand}
use Rattle.promise.specs.Level.{Level, total}
use Rattle.promise.proofs.Level.{level_self, total_lt, total_add, total_asked, total_own}
use Rattle.promise.specs.Window.{work, Window, Punctual}
use Rattle.promise.proofs.Window.{room_for_one}
use Rattle.promise.specs.Work.{LevelOpen}
use Rattle.promise.proofs.Work.{work_le, work_lt, work_most, work_open}

module _ {P : Plan} (ok : Right P) {m n : Moment} (fits : Fits P m) (t : Ticked P m n) {due : ℕ → ℕ → ℕ} {r : ℕ}
    (l : r < P.rows) (w : Window P due m r) where
  -- At the new clock, y after the start, row k has at most ceil y / period releases in the window,
  count : (y : ℕ) → w.start + y ≡ n.clock → (k : ℕ) → k < P.rows → Level P r k → m.released k ≤ w.base k + ceil y (P.period k)
  count y e k lk v = go (dec_le (m.released k) (w.base k))
    where
      go : Dec (m.released k ≤ w.base k) → m.released k ≤ w.base k + ceil y (P.period k)
      go (yes h) = omega arith
      go (no h) = omega (arith, ceil_count (ok.period_pos k lk) short)
        where
          j : ℕ
          j = m.released k - suc (w.base k)

          is : m.released k ≡ suc (w.base k + j)
          is = omega arith

          short : j * P.period k < y
          short =
              omega (arith, t.clock, (fits.row k lk).near, ap (λ x. x * P.period k) is, w.spaced k lk v (omega arith))

  -- and at most so much work to do.
  asked :
      (y : ℕ) → w.start + y ≡ n.clock → (k : ℕ) → k < P.rows → Level P r k
      → m.released k * P.cost k ≤ w.base k * P.cost k + ceil y (P.period k) * P.cost k
  asked y e k lk v = omega (arith, mul-le-mul_right (P.cost k) (count y e k lk v))

  module _ (punctual : Punctual due m n r) (o : LevelOpen P m n r) where
    was_open : Open m o.row
    was_open = omega (arith, o.still, worked_order ok fits t o.row o.below)

    not_quiet : (k : ℕ) → Level P r k → Quiet P m n k → ⊥
    not_quiet k v q = omega (arith, o.still, q o.row o.below (o.level.same ∙ sym v.same))

    -- A row of the level got the tick.
    worked : n.clock + total P r (λ k. w.base k * P.cost k) ≤ w.start + total P r (work P n)
    worked = go (t.busy o.row o.below was_open)
      where
        go :
            (i : ℕ) × (i < P.rows) × (P.processor i ≡ P.processor o.row) × Moved m n i
            → n.clock + total P r (λ k. w.base k * P.cost k) ≤ w.start + total P r (work P n)
        go (i, li, s, got) = by (dec_le (P.priority r) (P.priority i)) (t.turn i li got)
          where
            by :
                Dec (P.priority r ≤ P.priority i) → Turn P m i
                → n.clock + total P r (λ k. w.base k * P.cost k) ≤ w.start + total P r (work P n)
            by (yes u) q =
                omega (
                  arith,
                  w.worked,
                  t.clock,
                  total_lt P r l {f = work P m} {g = work P n} (λ k lk v. work_le ok fits t k lk) i li
                      (record { same = s ∙ o.level.same; ahead = u }) (work_lt ok fits t i li got),
                )
            by (no u) q = absurd (omega (arith, o.level.ahead, q o.row o.below (sym s) was_open))

    -- One more release is a period after the last.
    one_more :
        (k : ℕ) → k < P.rows → Level P r k → (m.guard k ≤ n.clock) ⊎ Quiet P m n k
        → w.start + m.released k * P.period k ≤ n.clock + w.base k * P.period k
    one_more k lk v (inr q) = absurd (not_quiet k v q)
    one_more k lk v (inl h) = room_for_one w n.clock (omega (arith, t.clock)) k lk v h

    spaced :
        (k : ℕ) → k < P.rows → Level P r k → w.base k < n.released k → Gate P m n k
        → w.start + n.released k * P.period k ≤ n.guard k + w.base k * P.period k
    spaced k lk v h (Gate.kept a b c) = rw (a, b) (w.spaced k lk v (omega arith))
    spaced k lk v h (Gate.lowered a q b c d) = absurd (not_quiet k v q)
    spaced k lk v h (Gate.lets_go a b c d e) = rw (c, d) (omega (arith, one_more k lk v e))

    newest :
        (i : ℕ) → n.completed r < i → i ≤ n.released r → n.released r ≡ suc (m.released r)
        → (m.guard r ≤ n.clock) ⊎ Quiet P m n r
        → w.start + i * P.period r ≤ due r i + P.period r + w.base r * P.period r
    newest i lo hi c e = go (dec_le i (m.released r))
      where
        go : Dec (i ≤ m.released r) → w.start + i * P.period r ≤ due r i + P.period r + w.base r * P.period r
        go (yes h) = w.early i (omega (arith, worked_order ok fits t r l)) h
        go (no h) =
            let ei : i ≡ suc (m.released r) = omega arith in
            rw ei (omega (arith, punctual c, one_more r l (level_self P r) e))

    early :
        (i : ℕ) → n.completed r < i → i ≤ n.released r → Gate P m n r
        → w.start + i * P.period r ≤ due r i + P.period r + w.base r * P.period r
    early i lo hi (Gate.kept a b c) = w.early i (omega (arith, worked_order ok fits t r l)) (omega arith)
    early i lo hi (Gate.lowered a q b c d) = w.early i (omega (arith, worked_order ok fits t r l)) (omega arith)
    early i lo hi (Gate.lets_go a b c d e) = newest i lo hi c e

    full : (y : ℕ) → 0 < y → w.start + y ≤ n.clock → y < ceil y (P.period r) * P.cost r + demand P r y
    full y py h = go (dec_le (w.start + y) m.clock)
      where
        go : Dec (w.start + y ≤ m.clock) → y < ceil y (P.period r) * P.cost r + demand P r y
        go (yes d) = w.full y py d
        go (no d) =
            let e : w.start + y ≡ n.clock = omega (arith, t.clock) in
            omega (
              arith,
              worked,
              total_asked P r y,
              total_add P r (λ k. w.base k * P.cost k) (λ k. ceil y (P.period k) * P.cost k),
              total_lt P r l {f = work P n} {g = λ k. w.base k * P.cost k + ceil y (P.period k) * P.cost k}
                  (λ k lk v. omega (arith, work_most ok fits t k lk, asked y e k lk v)) o.row o.below o.level
                  (omega (arith, work_open ok fits t o.row o.below o.still, asked y e o.row o.below o.level)),
            )

    -- What row r has had, and the demand of the rows beside it, make up the ticks to the new clock.
    so_far : (y : ℕ) → w.start + y ≡ n.clock → y + w.base r * P.cost r ≤ work P n r + demand P r y
    so_far y e =
        omega (
          arith,
          worked,
          total_own P r y (work P n) (λ k. w.base k * P.cost k)
              (λ k lk v. omega (arith, work_most ok fits t k lk, asked y e k lk v)),
        )

    behind :
        (y : ℕ) → 0 < y → w.start + y ≤ n.clock
        → y + w.base r * P.cost r < suc (n.completed r) * P.cost r + demand P r y
    unfolding work
    behind y py h = go (dec_le (w.start + y) m.clock)
      where
        go : Dec (w.start + y ≤ m.clock) → y + w.base r * P.cost r < suc (n.completed r) * P.cost r + demand P r y
        go (yes d) = omega (arith, w.behind y py d, mul-le-mul_right (P.cost r) (worked_order ok fits t r l).0)
        go (no d) =
            let e : w.start + y ≡ n.clock = omega (arith, t.clock) in
            omega (arith, so_far y e, worked_within ok fits t r l)

    pub window_goes_on : Window P due n r
    window_goes_on = record {
      start = w.start;
      base = w.base;
      begun = omega (arith, w.begun, t.clock);
      based = λ k lk v. omega (arith, w.based k lk v, worked_order ok fits t k lk);
      worked = worked;
      spaced = λ k lk v h. spaced k lk v h (t.gate k lk);
      early = λ i lo hi. early i lo hi (t.gate r l);
      full = full;
      behind = behind;
    }
