-- Laws of the equations of one row: its numbers exist where D does, are the only ones, and grow with what is asked.
use Rattle.std.specs.Prelude.{◌≡◌, refl}
use Rattle.std.proofs.Common.{ap, sym, ◌∙◌}
use Rattle.std.proofs.Math.Path.{fun_ext}
use Prim.Native.Nat.{ℕ, zero, suc, max, ◌+◌, ◌*◌, ◌-◌, ◌≤◌, ◌<◌}
use Rattle.std.proofs.Math.Nat.{mul-le-mul_right, mul-le-mul_left, mul-le-mul}
use native.Mathlib.Omega.{arith, both_ways, by_contra}
use Rattle.std.proofs.Math.Decide.{dec_le, dec_lt}
use Rattle.facts.specs.Rounding.{ceil}
use Rattle.facts.specs.RoundingLaws.{ceil_le, ceil_mono, ceil_pos, ceil_count}
use Rattle.facts.specs.Least.{Least}
use Rattle.facts.specs.LeastLaws.{Rising, Answer, answer, least_unique, least_mono, least_below}
use Rattle.equations.specs.Row.{Row, work, work_to, Greatest, RowBounds}

-- Period and cost are above 0, and the rows beside never ask for less in more time.
pub record Proper (q : Row) : Type 0 where
  pub period_pos : 0 < q.period
  pub cost_pos : 0 < q.cost
  pub others_mono : (t u : ℕ) → t ≤ u → q.others t ≤ q.others u

-- The two right sides differ in the row's own part alone.
pub work_to_sum : (q : Row) (k t : ℕ) → work_to q k t + ceil t q.period * q.cost ≡ work q t + suc k * q.cost
unfolding work work_to
work_to_sum q k t = omega arith

-- One instance more adds one cost.
pub work_to_more : (q : Row) (k t : ℕ) → work_to q (suc k) t ≡ work_to q k t + q.cost
unfolding work_to
work_to_more q k t = omega arith

module _ {q : Row} (ok : Proper q) where
  pub work_rising : Rising (work q)
  unfolding work
  work_rising = record {
    mono = λ t u h. omega (arith, ok.others_mono t u h, mul-le-mul_right q.cost (ceil_mono ok.period_pos ok.period_pos h (omega arith)));
    pos = λ t h. omega (arith, mul-le-mul (ceil_pos ok.period_pos h) ok.cost_pos);
  }

  pub work_to_rising : (k : ℕ) → Rising (work_to q k)
  unfolding work_to
  work_to_rising k = record {
    mono = λ t u h. omega (arith, ok.others_mono t u h);
    pos = λ t h. omega (arith, ok.cost_pos);
  }

  -- Every instance from 1 to M has its C, at most D.
  pub instance_answer : {D : ℕ} (k : ℕ) → Least (work q) D → k < ceil D q.period → Answer (work_to q k) D
  unfolding work work_to
  instance_answer {D} k b h =
      answer (work_to_rising k) D b.pos (omega (arith, b.answer, mul-le-mul_right q.cost h))

  -- Its C comes after (m − 1) × p.
  pub instance_late : {D k C : ℕ} → Least (work q) D → k < ceil D q.period → Least (work_to q k) C → k * q.period < C
  unfolding work work_to
  instance_late {D} {k} {C} b h c =
      by_contra (suc (k * q.period)) C (λ s. omega (arith, early s, ceil_le {x = D} {j = k} ok.period_pos (omega (arith, early s))))
    where
      early : C < suc (k * q.period) → D ≤ C
      early s =
          least_below work_rising b C c.pos
          (omega (arith, c.answer, mul-le-mul_right q.cost (ceil_le {x = C} {j = k} ok.period_pos (omega arith))))

  -- The last instance ends with the busy length.
  pub last_answer : {D k : ℕ} → Least (work q) D → suc k ≡ ceil D q.period → Least (work_to q k) D
  last_answer {D} {k} b e =
      let a : Answer (work_to q k) D = instance_answer k b (omega arith) in
      let late : k * q.period < a.value = instance_late b (omega arith) a.least in
      let own : ceil a.value q.period ≡ suc k = both_ways (ceil a.value q.period) (suc k) (omega (arith, e, ceil_mono {x = a.value} {y = D} ok.period_pos ok.period_pos a.fits (omega arith))) (ceil_count ok.period_pos late) in
      let same : work q a.value ≡ a.value = omega (arith, work_to_sum q k a.value, a.least.answer, ap (λ (j : ℕ). j * q.cost) own) in
      let whole : a.value ≡ D = both_ways a.value D a.fits (b.least a.value a.least.pos same) in
      rw whole at a.least

-- The row's bound is at most its busy length.
pub bound_within : {q : Row} → Proper q → {D M R : ℕ} → RowBounds q D M R → R ≤ D
bound_within {q} ok {D} b =
    let a : Answer (work_to q b.bound.instance) D = instance_answer ok b.bound.instance b.busy (omega (arith, b.bound.within, b.instances)) in
    omega (arith, b.bound.reached, a.fits, least_unique a.least b.bound.ends)

-- Any two numbers of a row are equal.
pub row_bounds_one : {q : Row} {D M R D' M' R' : ℕ} → RowBounds q D M R → RowBounds q D' M' R' → (D ≡ D') × (M ≡ M') × (R ≡ R')
row_bounds_one {q} {D} {M} {R} {D'} {M'} {R'} b c = (e_d, e_m, both_ways R R' (half b c e_m) (half c b (sym e_m)))
  where
    e_d : D ≡ D'
    e_d = least_unique b.busy c.busy

    e_m : M ≡ M'
    e_m = rw (b.instances, c.instances, e_d)

    half : {D M R D' M' R' : ℕ} → RowBounds q D M R → RowBounds q D' M' R' → M ≡ M' → R ≤ R'
    half b c e =
        omega (arith, b.bound.reached, c.bound.upper b.bound.instance (omega (arith, b.bound.within)) b.bound.end b.bound.ends)

-- The greatest bound of the instances before instance k, counted from 0: 0 before the first.
pub data SoFar (q : Row) (k R : ℕ) : Type 0 where
  none : k ≡ 0 → R ≡ 0 → SoFar q k R
  some : Greatest q k R → SoFar q k R

pub so_far_upper : {q : Row} {k R : ℕ} → SoFar q k R → (j : ℕ) → j < k → (C : ℕ) → Least (work_to q j) C → C - j * q.period ≤ R
so_far_upper (none e z) j h C c = absurd (omega arith)
so_far_upper (some g) j h C c = g.upper j h C c

-- One instance more, which ends at C.
pub greatest_more : {q : Row} {k R C : ℕ} → SoFar q k R → Least (work_to q k) C → Greatest q (suc k) (max R (C - k * q.period))
greatest_more {q} {k} {R} {C} s c = pick (dec_le R (C - k * q.period)) s
  where
    each : (X : ℕ) → R ≤ X → C - k * q.period ≤ X → (j : ℕ) → j < suc k → (C' : ℕ) → Least (work_to q j) C' → C' - j * q.period ≤ X
    each X u v j h C' c' = go (dec_lt j k)
      where
        go : Dec (j < k) → C' - j * q.period ≤ X
        go (yes d) = omega (arith, so_far_upper s j d C' c')
        go (no d) =
            let ej : j ≡ k = omega arith in
            let e_c : C' ≡ C = least_unique (rw ej at c') c in
            rw (e_c, ej) v

    last : R ≤ C - k * q.period → Greatest q (suc k) (max R (C - k * q.period))
    last d = record {
      upper = each (max R (C - k * q.period)) (omega arith) (omega arith);
      instance = k;
      within = omega arith;
      end = C;
      ends = c;
      reached = omega arith;
    }

    pick : Dec (R ≤ C - k * q.period) → SoFar q k R → Greatest q (suc k) (max R (C - k * q.period))
    pick (yes d) r = last d
    pick (no d) (none e z) = last (omega arith)
    pick (no d) (some g) = record {
      upper = each (max R (C - k * q.period)) (omega arith) (omega arith);
      instance = g.instance;
      within = omega (arith, g.within);
      end = g.end;
      ends = g.ends;
      reached = omega (arith, g.reached);
    }

-- Where each of the first M instances has its C, there is a greatest bound.
greatest : (q : Row) (M : ℕ) → ((k : ℕ) → k < M → (C : ℕ) × Least (work_to q k) C) → (R : ℕ) × SoFar q M R
greatest q zero a = (0, none refl refl)
greatest q (suc M) a =
    let g : (R : ℕ) × SoFar q M R = greatest q M (λ k h. a k (omega arith)) in
    let c : (C : ℕ) × Least (work_to q M) C = a M (omega arith) in
    (max g.0 (c.0 - M * q.period), some (greatest_more g.1 c.1))

-- A row with a busy length has its numbers.
pub row_bounds : {q : Row} → Proper q → {D : ℕ} → Least (work q) D → (R : ℕ) × RowBounds q D (ceil D q.period) R
row_bounds {q} ok {D} b =
    go (ceil D q.period) refl (ceil_pos ok.period_pos b.pos)
    (greatest q (ceil D q.period) (λ k h. (let a : Answer (work_to q k) D = instance_answer ok k b h in (a.value, a.least))))
  where
    go : (M : ℕ) → M ≡ ceil D q.period → 0 < M → (R : ℕ) × SoFar q M R → (R : ℕ) × RowBounds q D M R
    go M e h (R, some g) = (R, record { busy = b; instances = e; bound = g })
    go M e h (R, none z n) = absurd (omega arith)

-- The first row asks for no more than the second, in each place.
pub record Less (q q' : Row) : Type 0 where
  pub period : q'.period ≤ q.period
  pub cost : q.cost ≤ q'.cost
  pub others : (t : ℕ) → q.others t ≤ q'.others t

module _ {q q' : Row} (ok : Proper q) (ok' : Proper q') (h : Less q q') where
  work_less : (t : ℕ) → work q t ≤ work q' t
  unfolding work
  work_less t = omega (arith, h.others t, mul-le-mul (ceil_mono {x = t} {y = t} ok.period_pos ok'.period_pos (omega arith) h.period) h.cost)

  work_to_less : (k t : ℕ) → work_to q k t ≤ work_to q' k t
  unfolding work_to
  work_to_less k t = omega (arith, mul-le-mul_left (suc k) h.cost, h.others t)

  -- It has a busy length where the second has one, none longer.
  pub busy_less : {D : ℕ} → Least (work q') D → Answer (work q) D
  busy_less {D} d = answer (work_rising ok) D d.pos (omega (arith, work_less D, d.answer))

  -- None of its numbers is larger.
  pub row_bounds_less : {D M R D' M' R' : ℕ} → RowBounds q D M R → RowBounds q' D' M' R' → (D ≤ D') × (M ≤ M') × (R ≤ R')
  row_bounds_less {D} {M} {R} {D'} {M'} {R'} b c = (l_d, l_m, l_r)
    where
      l_d : D ≤ D'
      l_d = least_mono (work_rising ok) work_less b.busy c.busy

      l_m : M ≤ M'
      l_m = rw (b.instances, c.instances) (ceil_mono ok.period_pos ok'.period_pos l_d h.period)

      k : ℕ
      k = b.bound.instance

      ans : Answer (work_to q' k) D'
      ans = instance_answer ok' k c.busy (omega (arith, l_m, b.bound.within, c.instances))

      l_c : b.bound.end ≤ ans.value
      l_c = least_mono (work_to_rising ok k) (work_to_less k) b.bound.ends ans.least

      l_r : R ≤ R'
      l_r = omega (arith, l_c, b.bound.reached, c.bound.upper k (omega (arith, l_m, b.bound.within)) ans.value ans.least, mul-le-mul_left k h.period)

-- Rows with the same period and cost and the same work are the same.
pub row_ext : {q q' : Row} → q.period ≡ q'.period → q.cost ≡ q'.cost → ((t : ℕ) → work q t ≡ work q' t) → q ≡ q'
unfolding work
row_ext {q} {q'} ep ec ew =
    ap (λ (p : ℕ). row p q.cost q.others) ep
    ∙ ap (λ (c : ℕ). row q'.period c q.others) ec
    ∙ ap (λ (o : ℕ → ℕ). row q'.period q'.cost o) (fun_ext each)
  where
    row : ℕ → ℕ → (ℕ → ℕ) → Row
    row p c o = record { period = p; cost = c; others = o }

    each : (t : ℕ) → q.others t ≡ q'.others t
    each t =
        let own : ceil t q.period * q.cost ≡ ceil t q'.period * q'.cost = rw (ep, ec) in
        omega (arith, ew t)
