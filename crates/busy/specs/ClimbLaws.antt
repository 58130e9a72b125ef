-- The climb to the busy length of rows gathered side by side, step by step.
use Rattle.std.specs.Prelude.{◌≡◌, refl, Bool, true, false, cond, List, [], ℕ, zero, suc, max, min, ◌+◌, ◌*◌, ◌-◌, ◌≤◌, ◌<◌, eqb, length, replicate, set}
use Rattle.std.proofs.Math.Path.{ap, sym}
use Rattle.std.proofs.Common.{◌∙◌, mul-le-mul_left, add-mul, length-set, get_or-set_same, Fits, eqb-true, eq-eqb, ne_eqb, below_more as more_below}
use Rattle.std.proofs.Math.Bool.{not}
use Rattle.std.proofs.Math.Nat.{mul-le-mul_right, mul-le-mul}
use native.Mathlib.Omega.{arith, both_ways, by_contra}
use Rattle.std.proofs.Math.Decide.{dec_lt}
use Rattle.std.specs.Int.{w64}
use Rattle.facts.specs.Sums.{sum, sum_if}
use Rattle.facts.specs.SumsLaws.{sum_none, sum_more, sum_mono, sum_ext, sum_add, sum_has, sum_bound, sum_if_mono, sum_if_without}
use Rattle.facts.specs.Rounding.{ceil}
use Rattle.facts.specs.RoundingLaws.{ceil_le, ceil_mono, ceil_pos, ceil_tight}
use Rattle.facts.specs.Least.{Least, Unanswered}
use Rattle.facts.specs.LeastLaws.{Rising, below_one, below_step, below_part, below_rises, below_stop, below_past}
use Rattle.facts.specs.Filled.{filled}
use Rattle.facts.specs.FilledLaws.{get_d_filled, get_d_rest, filled_none, filled_more, filled_keep, length_filled}
use Rattle.table.specs.Table.{at}
use Rattle.equations.specs.Row.{Row, work, work_to, Greatest}
use Rattle.equations.specs.RowLaws.{Proper, work_to_sum, work_to_more, work_to_rising, none, some, greatest_more}
use Rattle.busy.specs.General.{below_more, ceil_on, ceil_one, ceil_zero, least_ext, still_there, filled_turn, filled_stays}
use Rattle.busy.specs.Climb.{Ranged, work_of, gathered_row, came, Begun, Advanced, ended, later_next, Settled, Progress, Climbing, Sought, Zeros}

-- The first instance is sought from clock 1 on.
pub progress_first : {q : Row} → Proper q → {later begin best : ℕ} → later ≡ 0 → begin ≡ 0 → best ≡ 0 → Progress q 1 1 later begin best
progress_first {q} ok {later} {begin} {best} l b m = record {
  k = 0;
  begins = omega arith;
  came = omega arith;
  behind = let one : ceil 1 q.period ≡ 1 = ceil_one (omega arith) ok.period_pos in omega (arith, ap (λ (x : ℕ). x * q.cost) one);
  below = below_one (work_to q 0);
  so_far = none refl m;
}

-- What came up to t waits behind the instance that is sought.
pub progress_advance :
    {q : Row} → Proper q → {s t later begin best : ℕ} → s ≤ t → (p : Progress q s t later begin best)
    → Progress q t t (later + ceil (t - ceil s q.period * q.period) q.period * q.cost) begin best
progress_advance {q} ok {s} {t} {later} {begin} {best} l p = record {
  k = p.k;
  begins = p.begins;
  came = omega (arith, p.came);
  behind = let on = ap (λ (x : ℕ). x * q.cost) (ceil_on {s = s} {t = t} {p = q.period} ok.period_pos l) in omega (arith, on, p.behind);
  below = p.below;
  so_far = p.so_far;
}

-- What the work comes to for the instance that is sought.
pub progress_work : {q : Row} {s t later begin best : ℕ} (p : Progress q s t later begin best) → work_to q p.k s + later ≡ work q s
progress_work {q} {s} p = omega (arith, work_to_sum q p.k s, p.behind)

module _ {q : Row} (ok : Proper q) {t later begin best w : ℕ} (pos : 0 < t) (e : w ≡ work q t) (p : Progress q t t later begin best) where
  -- It is never before t,
  pub progress_rises : t + later ≤ w
  progress_rises = omega (arith, progress_work p, below_rises (work_to_rising ok p.k) pos p.below)

  -- and an instance with work behind it has a whole one behind it.
  pub behind_one : 0 < later → (q.cost ≤ later) × (suc (suc p.k) ≤ ceil t q.period)
  behind_one h = (omega (arith, mul-le-mul_right q.cost more, p.behind), more)
    where
      more : suc (suc p.k) ≤ ceil t q.period
      more = by_contra (suc (suc p.k)) (ceil t q.period) (λ b. omega (arith, p.behind, mul-le-mul_right q.cost (few b)))
        where
          few : ceil t q.period < suc (suc p.k) → ceil t q.period ≤ suc p.k
          few b = omega arith

  -- The instance does not end at t: the search for it goes on.
  pub progress_keep : {next : ℕ} → next ≤ w - later → Progress q t next later begin best
  progress_keep {next} l = record {
    k = p.k;
    begins = p.begins;
    came = p.came;
    behind = p.behind;
    below = below_part (work_to_rising ok p.k) p.below (omega (arith, progress_work p));
    so_far = p.so_far;
  }

  -- It ends at t, and the next one is sought.
  pub progress_end :
      {next : ℕ} → w - later ≡ t → t < w → next ≤ w - (later - q.cost)
      → Progress q t next (later - q.cost) (begin + q.period) (max best (t - begin))
  progress_end {next} ends past l = record {
    k = suc p.k;
    begins = omega (arith, p.begins);
    came = omega (arith, ceil_tight t ok.period_pos, mul-le-mul_right q.period whole, p.begins);
    behind = omega (arith, p.behind, one);
    below = below_part (work_to_rising ok (suc p.k)) (below_more (λ u. omega (arith, work_to_more q p.k u)) p.below) (omega (arith, work_to_more q p.k t, progress_work p, one, here));
    so_far = some (rw p.begins (greatest_more p.so_far (below_stop (work_to_rising ok p.k) pos p.below (omega (arith, progress_work p, here)))));
  }
    where
      here : later + t ≡ w
      here = omega (arith, progress_rises)

      one : q.cost ≤ later
      one = (behind_one (omega (arith, here))).0

      whole : suc (suc p.k) ≤ ceil t q.period
      whole = (behind_one (omega (arith, here))).1

-- At the busy length the last instance ends.
pub progress_last :
    {q : Row} → Proper q → {t later begin best : ℕ} → Least (work q) t → (p : Progress q t t later begin best)
    → Greatest q (ceil t q.period) (max best (t - begin))
progress_last {q} ok {t} {later} {begin} {best} d p =
    rw (← last, p.begins)
    (greatest_more p.so_far (below_stop (work_to_rising ok p.k) d.pos p.below (omega (arith, progress_work p, d.answer, none_behind))))
  where
    none_behind : later ≡ 0
    none_behind = omega (arith, progress_rises ok d.pos refl p, d.answer)

    last : suc p.k ≡ ceil t q.period
    last =
        both_ways (suc p.k) (ceil t q.period)
        (by_contra (suc p.k) (ceil t q.period) (λ b. omega (arith, p.behind, none_behind, ok.cost_pos, mul-le-mul_right q.cost (le b))))
        (by_contra (ceil t q.period) (suc p.k) (λ b. omega (arith, p.behind, none_behind, ok.cost_pos, mul-le-mul_right q.cost b)))
      where
        le : ceil t q.period < suc p.k → suc (ceil t q.period) ≤ suc p.k
        le b = b

-- The first rows of the columns are columns.
pub ranged_part : {m n : ℕ} {period cost : List ℕ} → m ≤ n → Ranged n period cost → Ranged m period cost
ranged_part h ok = record {
  few = omega (arith, ok.few);
  periods = omega (arith, ok.periods);
  costs = omega (arith, ok.costs);
  period_least = λ i l. ok.period_least i (omega arith);
  period_most = λ i l. ok.period_most i (omega arith);
  cost_least = λ i l. ok.cost_least i (omega arith);
  cost_most = λ i l. ok.cost_most i (omega arith);
}

module _ {n : ℕ} {period cost : List ℕ} (ok : Ranged n period cost) where
  term : ℕ → ℕ → ℕ
  term t i = ceil t (at period i) * at cost i

  term_mono : (t u : ℕ) → t ≤ u → (i : ℕ) → i < n → term t i ≤ term u i
  unfolding term
  term_mono t u h i l =
      mul-le-mul_right (at cost i) (ceil_mono (ok.period_least i l) (ok.period_least i l) h (omega arith))

  pub proper_gathered : (i : ℕ) → i < n → Proper (gathered_row n period cost i)
  unfolding gathered_row term
  proper_gathered i l = record {
    period_pos = ok.period_least i l;
    cost_pos = ok.cost_least i l;
    others_mono = λ t u h. sum_if_mono n (λ j. not (eqb j i)) (λ j lj b. term_mono t u h j lj);
  }

  -- Each gathered row's work is that of all of them.
  pub work_gathered : (i t : ℕ) → i < n → work (gathered_row n period cost i) t ≡ work_of n period cost t
  unfolding work gathered_row work_of sum_if
  work_gathered i t l = omega (arith, sum_if_without n (λ j. true) (λ j. ceil t (at period j) * at cost j) i l refl)

  pub work_of_rising : 0 < n → Rising (work_of n period cost)
  unfolding work_of term
  work_of_rising any = record {
    mono = λ t u h. sum_mono n (term_mono t u h);
    pos = λ t h. omega (arith, sum_has (term t) n 0 any, mul-le-mul (ceil_pos {x = t} (ok.period_least 0 any) h) (ok.cost_least 0 any));
  }

  -- A term of the work, and the whole, are small up to 10,000,000.
  pub term_small : (t i : ℕ) → t ≤ 10000000 → i < n → ceil t (at period i) * at cost i ≤ 10000000000000
  term_small t i h l =
      omega (arith, mul-le-mul (ceil_le {x = t} {p = at period i} {j = 10000000} (ok.period_least i l) (omega (arith, mul-le-mul_left 10000000 (ok.period_least i l)))) (ok.cost_most i l))

  pub work_of_small : (t : ℕ) → t ≤ 10000000 → work_of n period cost t ≤ 1280000000000000
  unfolding work_of
  work_of_small t h =
      omega (arith, sum_bound n (λ i. ceil t (at period i) * at cost i) 10000000000000 (λ i l. term_small t i h l), ok.few)

  -- The climb begins.
  pub climb_first :
      (tied : ℕ) → tied ≤ n → {due later due' later' begin best : List ℕ} {w : ℕ}
      → Begun n period cost due later due' later' w → ((i : ℕ) → i < tied → at begin i ≡ 0) → ((i : ℕ) → i < tied → at best i ≡ 0)
      → Climbing n tied 1 1 w period cost due' later' begin best
  unfolding work_of gathered_row
  climb_first tied h {due} {later} {due'} {later'} b zb zm = record {
    pos = omega arith;
    order = omega arith;
    below = below_one (work_of n period cost);
    work_is = b.work_is ∙ sum_ext n (λ i l. (let o = one i l in omega (arith, ap (λ (x : ℕ). x * at cost i) o)));
    due_is = λ i l. (let o = one i l in rw (b.due_is, get_d_filled (at period) n i 0 due l) (omega (arith, ap (λ (x : ℕ). x * at period i) o)));
    later_most = λ i l. (let z = nothing i l in omega arith);
    each = λ i l. progress_first (proper_gathered i (omega arith)) (nothing i (omega arith)) (zb i l) (zm i l);
  }
    where
      one : (i : ℕ) → i < n → ceil 1 (at period i) ≡ 1
      one i l = ceil_one (omega arith) (ok.period_least i l)

      nothing : (i : ℕ) → i < n → at later' i ≡ 0
      nothing i l = rw b.later_is (get_d_filled (λ j. 0) n i 0 later l)

  -- The clock moves on.
  pub climb_advance :
      {tied s t w fresh : ℕ} {due later due' later' begin best : List ℕ} → tied ≤ n
      → Climbing n tied s t w period cost due later begin best → Advanced n t period cost due later due' later' fresh
      → Climbing n tied t t (w + fresh) period cost due' later' begin best
  unfolding work_of gathered_row came
  climb_advance {tied} {s} {t} {w} {fresh} {due} {later} {due'} {later'} h c a = record {
    pos = omega (arith, c.pos, c.order);
    order = omega arith;
    below = c.below;
    work_is = whole;
    due_is = λ i l. rw (a.due_is, get_d_filled (λ j. at due j + came t period due j * at period j) n i 0 due l) (rw (c.due_is i l) (scaled i l (at period i)));
    later_most = λ i l. rw (later_at i l) (omega (arith, scaled i l (at cost i), c.later_most i l));
    each = λ i l. rw (later_at i (omega arith)) (progress_advance (proper_gathered i (omega arith)) c.order (c.each i l));
  }
    where
      on : (i : ℕ) → i < n → ceil t (at period i) ≡ ceil s (at period i) + ceil (t - ceil s (at period i) * at period i) (at period i)
      on i l = ceil_on (ok.period_least i l) c.order

      scaled : (i : ℕ) → i < n → (x : ℕ) → ceil s (at period i) * x + ceil (t - ceil s (at period i) * at period i) (at period i) * x ≡ ceil t (at period i) * x
      scaled i l x = sym (add-mul (ceil s (at period i)) (ceil (t - ceil s (at period i) * at period i) (at period i)) x) ∙ ap (λ (k : ℕ). k * x) (sym (on i l))

      came_at : (i : ℕ) → i < n → came t period due i ≡ ceil (t - ceil s (at period i) * at period i) (at period i)
      came_at i l = rw (c.due_is i l)

      later_at : (i : ℕ) → i < n → at later' i ≡ at later i + ceil (t - ceil s (at period i) * at period i) (at period i) * at cost i
      later_at i l = rw (a.later_is, get_d_filled (λ j. at later j + came t period due j * at cost j) n i 0 later l) (rw (came_at i l))

      whole : w + fresh ≡ sum n (λ i. ceil t (at period i) * at cost i)
      whole =
          rw (c.work_is, a.fresh_is)
          (sym (sum_add n (λ i. ceil s (at period i) * at cost i) (λ i. came t period due i * at cost i))
          ∙ sum_ext n (λ i l. rw (came_at i l) (scaled i l (at cost i))))

  -- The instances that end at t are settled.
  pub climb_settle :
      {tied t w next : ℕ} {due later begin best later' begin' best' : List ℕ} → tied ≤ n → 0 < n
      → Climbing n tied t t w period cost due later begin best → t < w
      → Settled tied t w period cost later begin best later' begin' best' next
      → Climbing n tied t next w period cost due later' begin' best'
  unfolding work_of gathered_row
  climb_settle {tied} {t} {w} {next} {due} {later} {begin} {best} {later'} {begin'} {best'} h any c past s = record {
    pos = c.pos;
    order = omega (arith, s.past);
    below = below_part (work_of_rising any) c.below (omega (arith, s.most, c.work_is));
    work_is = c.work_is;
    due_is = c.due_is;
    later_most = λ i l. most i l (dec_lt i tied);
    each = each;
  }
    where
      later_at : (i : ℕ) → i < tied → at later' i ≡ later_next t w cost later i
      later_at i l = rw s.later_is (get_d_filled (later_next t w cost later) tied i 0 later l)

      rest : (i : ℕ) → tied ≤ i → at later' i ≡ at later i
      rest i l = rw s.later_is (get_d_rest (later_next t w cost later) tied i 0 later l)

      drops : (x : Bool) (a b : ℕ) → cond x (a - b) a ≤ a
      drops true a b = omega arith
      drops false a b = omega arith

      most : (i : ℕ) → i < n → Dec (i < tied) → at later' i ≤ ceil t (at period i) * at cost i
      most i l (yes y) = omega (arith, later_at i y, drops (ended t w later i) (at later i) (at cost i), c.later_most i l)
      most i l (no y) = omega (arith, rest i (omega arith), c.later_most i l)

      each : (i : ℕ) → i < tied → Progress (gathered_row n period cost i) t next (at later' i) (at begin' i) (at best' i)
      each i l =
          rw (later_at i l, s.begin_is, s.best_is, get_d_filled (λ j. cond (ended t w later j) (at begin j + at period j) (at begin j)) tied i 0 begin l, get_d_filled (λ j. cond (ended t w later j) (max (at best j) (t - at begin j)) (at best j)) tied i 0 best l)
          (go (ended t w later i) refl (s.each i l))
        where
          is : w ≡ work (gathered_row n period cost i) t
          is = c.work_is ∙ sym (work_gathered i t (omega arith))

          go : (x : Bool) → ended t w later i ≡ x → next ≤ w - cond x (at later i - at cost i) (at later i)
              → Progress (gathered_row n period cost i) t next (cond x (at later i - at cost i) (at later i)) (cond x (at begin i + at period i) (at begin i)) (cond x (max (at best i) (t - at begin i)) (at best i))
          go true e m = progress_end (proper_gathered i (omega arith)) c.pos is (c.each i l) (eqb-true _ _ e) past m
          go false e m = progress_keep (proper_gathered i (omega arith)) c.pos is (c.each i l) m

  pub climb_sought :
      {tied t w : ℕ} {due later begin best : List ℕ} → tied ≤ n → Climbing n tied t t w period cost due later begin best → t < w
      → Sought tied t w cost later begin
  unfolding gathered_row
  climb_sought {tied} {t} {w} {due} {later} {begin} {best} h c past = record {
    past = past;
    rises = λ i l. progress_rises (proper_gathered i (omega arith)) c.pos (is i l) (c.each i l);
    whole = λ i l z. (behind_one (proper_gathered i (omega arith)) c.pos (is i l) (c.each i l) z).0;
    begun = λ i l. (c.each i l).came;
  }
    where
      is : (i : ℕ) → i < tied → w ≡ work (gathered_row n period cost i) t
      is i l = c.work_is ∙ sym (work_gathered i t (omega arith))

  -- At the busy length each of those rows has its bound.
  pub climb_last :
      {tied t w : ℕ} {due later begin best : List ℕ} → tied ≤ n → Climbing n tied t t w period cost due later begin best
      → Least (work_of n period cost) t → (i : ℕ) → i < tied
      → Greatest (gathered_row n period cost i) (ceil t (at period i)) (max (at best i) (t - at begin i))
  unfolding gathered_row
  climb_last {tied} {t} h c d i l =
      progress_last (proper_gathered i (omega arith)) (least_ext (λ u. sym (work_gathered i u (omega arith))) d) (c.each i l)

  pub climb_ends :
      {tied t w D : ℕ} {due later begin best best' : List ℕ} → tied ≤ n → Climbing n tied t t w period cost due later begin best
      → Least (work_of n period cost) D → t ≡ D → best' ≡ filled (λ i. max (at best i) (D - at begin i)) tied best → (i : ℕ) → i < tied
      → Greatest (gathered_row n period cost i) (ceil D (at period i)) (at best' i)
  climb_ends {tied} {t} {w} {D} {due} {later} {begin} {best} h c d e is i l =
      rw (is, get_d_filled (λ j. max (at best j) (D - at begin j)) tied i 0 best l) (climb_last h (rw e at c) d i l)

  -- The climb is never past the busy length, and before it there is work left.
  pub climb_within :
      {tied s t w D : ℕ} {due later begin best : List ℕ} → Climbing n tied s t w period cost due later begin best
      → Least (work_of n period cost) D → t ≤ D
  climb_within {D = D} c d = c.below D d.pos (omega (arith, d.answer))

  -- While it is within 10,000,000 ticks, its numbers are small.
  pub climb_small :
      {tied s t w : ℕ} {due later begin best : List ℕ} → Climbing n tied s t w period cost due later begin best → s ≤ 10000000
      → (w ≤ 1280000000000000) × ((i : ℕ) → i < n → at later i ≤ 10000000000000)
  climb_small {s = s} c h =
      (omega (arith, c.work_is, work_of_small s h), λ i l. omega (arith, c.later_most i l, term_small s i h l))

  pub climb_left :
      {tied t w D : ℕ} {due later begin best : List ℕ} → 0 < n → Climbing n tied t t w period cost due later begin best
      → Least (work_of n period cost) D → t < D → t < w
  climb_left {t = t} {w = w} any c d l =
      let up : t ≤ work_of n period cost t = below_rises (work_of_rising any) c.pos c.below in
      by_contra (suc t) w (λ b. omega (arith, c.work_is, up, d.least t c.pos (omega (arith, c.work_is, up))))

-- A turn of the climb past the ends of the instances, where D is the busy length.
module _
    {n tied t w D : ℕ} {period cost due later begin best : List ℕ} (ok : Ranged n period cost) (h : tied ≤ n) (any : 0 < n)
    (d : Least (work_of n period cost) D) (most : D ≤ 10000000) (c : Climbing n tied t t w period cost due later begin best) (l : t < D) where
  pub turn_sought : Sought tied t w cost later begin
  turn_sought = climb_sought ok h c (climb_left ok any c d l)

  module _ {later' begin' best' : List ℕ} {next : ℕ} (s : Settled tied t w period cost later begin best later' begin' best' next) where
    searched : Climbing n tied t next w period cost due later' begin' best'
    searched = climb_settle ok h any c (climb_left ok any c d l) s

    pub turn_within : next ≤ D
    turn_within = climb_within ok searched d

    pub turn_clock : next ≤ 10000000
    turn_clock = omega (arith, turn_within)

    pub turn_falls : D - next < D - t
    turn_falls = omega (arith, s.past)

    pub turn_later : (i : ℕ) → i < n → at later' i ≤ 10000000000000
    turn_later = (climb_small ok searched (omega arith)).1

    module _ {due'' later'' : List ℕ} {fresh : ℕ} (a : Advanced n next period cost due later' due'' later'' fresh) where
      pub turn_next : Climbing n tied next next (w + fresh) period cost due'' later'' begin' best'
      turn_next = climb_advance ok h searched a

      pub turn_fits : Fits w64 (w + fresh)
      turn_fits = omega (arith, (climb_small ok turn_next turn_clock).0)

nothing_in : (n i : ℕ) → at (replicate n 0) i ≡ 0
nothing_in zero i = refl
nothing_in (suc n) zero = refl
nothing_in (suc n) (suc i) = nothing_in n i

pub zeros_of : Zeros (replicate 128 0)
zeros_of = record { size = refl; zero = λ i. nothing_in 128 i }

-- Turns of the loops that count.
module _ (t : ℕ) (period cost due later : List ℕ) where
  pub advanced_none : Advanced 0 t period cost due later due later 0
  advanced_none = record { due_is = filled_none _ _; later_is = filled_none _ _; fresh_is = sym (sum_none _) }

  module _ {i fresh : ℕ} {due' later' : List ℕ} (a : Advanced i t period cost due later due' later' fresh) where
    -- What stands at i has not changed yet.
    pub due_at : at due' i ≡ at due i
    due_at = rw a.due_is (get_d_rest _ i i 0 due (omega arith))

    pub later_at_first : at later' i ≡ at later i
    later_at_first = rw a.later_is (get_d_rest _ i i 0 later (omega arith))

    pub advanced_yes :
        (v : ℕ) → i < length due → i < length later → v ≡ ceil (t - at due' i) (at period i)
        → Advanced (i + 1) t period cost due later (set due' i (at due' i + v * at period i)) (set later' i (at later' i + v * at cost i)) (fresh + v * at cost i)
    unfolding came
    advanced_yes v ld ll e =
        let is : v ≡ came t period due i = e ∙ rw due_at in
        record {
          due_is = rw (due_at, is, a.due_is) (filled_more _ i _ due ld refl);
          later_is = rw (later_at_first, is, a.later_is) (filled_more _ i _ later ll refl);
          fresh_is = rw (is, a.fresh_is) (sym (sum_more i _));
        }

    pub advanced_no :
        i < length due → i < length later → 0 < at period i → t ≤ at due' i → Advanced (i + 1) t period cost due later due' later' fresh
    unfolding came
    advanced_no ld ll p h =
        let gone : t - at due i ≡ 0 = omega (arith, due_at) in
        let none : came t period due i ≡ 0 = rw (gone, ceil_zero p) in
        record {
          due_is = a.due_is ∙ filled_keep (λ j. at due j + came t period due j * at period j) i 0 due ld (rw none (omega arith));
          later_is = a.later_is ∙ filled_keep (λ j. at later j + came t period due j * at cost j) i 0 later ll (rw none (omega arith));
          fresh_is = a.fresh_is ∙ (let more = sum_more i (λ j. came t period due j * at cost j) in omega (arith, more, ap (λ (x : ℕ). x * at cost i) none));
        }

-- What comes in up to 10,000,000 ticks is small.
pub came_small : {x p c v : ℕ} → v ≡ ceil x p → 0 < p → x ≤ 10000000 → c ≤ 1000000 → v * c ≤ 10000000000000
came_small {x} {p} {c} {v} e pp h l =
    rw e
    (omega (arith, mul-le-mul (ceil_le {x = x} {p = p} {j = 10000000} pp (omega (arith, mul-le-mul_left 10000000 pp))) l))

pub came_fits : {x p c v : ℕ} → v ≡ ceil x p → 0 < p → x ≤ 10000000 → c ≤ 1000000 → Fits w64 (v * c)
came_fits e pp h l = omega (arith, came_small e pp h l)

pub due_fits : {t d p v : ℕ} → v ≡ ceil (t - d) p → d < t → t ≤ 10000000 → 0 < p → p ≤ 1000000 → Fits w64 (d + v * p)
due_fits {t} {d} e l h pp m = let k : t - d ≤ 10000000 = omega arith in omega (arith, came_small e pp k m)

-- The loop over the n rows stands at row i.
abbrev pub Advancing : ℕ → ℕ → List ℕ → List ℕ → List ℕ → List ℕ → ℕ → List ℕ → List ℕ → ℕ → Type 0
Advancing n t period cost due later i due' later' fresh =
    (i ≤ n) × (length due' ≡ length due) × (length later' ≡ length later) × Advanced i t period cost due later due' later' fresh
    × (fresh ≤ i * 10000000000000)

module _
    {n t i fresh : ℕ} {period cost due later due' later' : List ℕ} (ok : Ranged n period cost) (h : t ≤ 10000000) (ld : n ≤ length due)
    (ll : n ≤ length later) (l : i < n) (a : Advancing n t period cost due later i due' later' fresh) where
  pub later_fits_word :
      {v : ℕ} → ((j : ℕ) → j < n → at later j ≤ 10000000000000) → v ≡ ceil (t - at due' i) (at period i)
      → Fits w64 (at later' i + v * at cost i)
  later_fits_word {v} m e =
      let came : v * at cost i ≤ 10000000000000 = came_small e (ok.period_least i l) (omega arith) (ok.cost_most i l) in
      omega (arith, came, later_at_first t period cost due later a.3, m i l)

  pub fresh_fits : {v : ℕ} → v ≡ ceil (t - at due' i) (at period i) → Fits w64 (fresh + v * at cost i)
  fresh_fits {v} e =
      let came : v * at cost i ≤ 10000000000000 = came_small e (ok.period_least i l) (omega arith) (ok.cost_most i l) in
      omega (arith, came, a.4, ok.few)

  pub advancing_yes :
      {v : ℕ} → v ≡ ceil (t - at due' i) (at period i) → {due'' later'' : List ℕ} {fresh'' : ℕ}
      → due'' ≡ set due' i (at due' i + v * at period i) → later'' ≡ set later' i (at later' i + v * at cost i) → fresh'' ≡ fresh + v * at cost i
      → Advancing n t period cost due later (i + 1) due'' later'' fresh''
  advancing_yes {v} e ed el ef =
      let came : v * at cost i ≤ 10000000000000 = came_small e (ok.period_least i l) (omega arith) (ok.cost_most i l) in
      rw (ed, el, ef)
      (omega arith, simp length-set a.1, simp length-set a.2, advanced_yes t period cost due later a.3 v (omega arith) (omega arith) e, omega (arith, came, a.4))

  pub advancing_no :
      t ≤ at due' i → {due'' later'' : List ℕ} {fresh'' : ℕ} → due'' ≡ due' → later'' ≡ later' → fresh'' ≡ fresh
      → Advancing n t period cost due later (i + 1) due'' later'' fresh''
  advancing_no k ed el ef =
      rw (ed, el, ef)
      (omega arith, a.1, a.2, advanced_no t period cost due later a.3 (omega arith) (omega arith) (ok.period_least i l) k, omega (arith, a.4))

pub advanced_all :
    {n t i fresh : ℕ} {period cost due later due' later' : List ℕ} → n ≤ i → Advancing n t period cost due later i due' later' fresh
    → Advanced n t period cost due later due' later' fresh
advanced_all {n} {t} {i} h a = let e : i ≡ n = omega (arith, a.0) in rw e at a.3

-- The lesser of two numbers.
lesser_left : (n a b : ℕ) → n ≡ min a b → n ≤ a
lesser_left n a b e = omega arith

lesser_right : (n a b : ℕ) → n ≡ min a b → n ≤ b
lesser_right n a b e = omega arith

lesser_past : (n a b t : ℕ) → n ≡ min a b → t < a → t < b → t < n
lesser_past n a b t e l r = omega arith

-- Turns of the loop that settles.
module _ (t work : ℕ) (period cost later begin best : List ℕ) where
  pub settled_none : t < work → Settled 0 t work period cost later begin best later begin best work
  settled_none h = record {
    later_is = filled_none _ _;
    begin_is = filled_none _ _;
    best_is = filled_none _ _;
    past = h;
    most = omega arith;
    each = λ j l. absurd (omega arith);
  }

  module _
      {i next : ℕ} {later' begin' best' : List ℕ} (s : Settled i t work period cost later begin best later' begin' best' next)
      (ll : i < length later) (lb : i < length begin) (lm : i < length best) where
    -- What stands at i has not changed yet.
    pub later_unsettled : at later' i ≡ at later i
    later_unsettled = still_there (later_next t work cost later) i later later' s.later_is

    pub begin_unsettled : at begin' i ≡ at begin i
    begin_unsettled = still_there (λ j. cond (ended t work later j) (at begin j + at period j) (at begin j)) i begin begin' s.begin_is

    best_unsettled : at best' i ≡ at best i
    best_unsettled = still_there (λ j. cond (ended t work later j) (max (at best j) (t - at begin j)) (at best j)) i best best' s.best_is

    next_each : (n : ℕ) → n ≤ next → n ≤ work - later_next t work cost later i → (j : ℕ) → j < i + 1 → n ≤ work - later_next t work cost later j
    next_each n h k = more_below (λ (j : ℕ). n ≤ work - later_next t work cost later j) i (λ j l. omega (arith, s.each j l)) k

    -- The instance of row i ends at t.
    pub settled_yes :
        work - at later' i ≡ t → (v : ℕ) → v ≡ max (at best' i) (t - at begin' i) → (n : ℕ) → n ≡ min next (work - (at later' i - at cost i))
        → t < work - (at later' i - at cost i)
        → Settled (i + 1) t work period cost later begin best (set later' i (at later' i - at cost i)) (set begin' i (at begin' i + at period i)) (set best' i v) n
    settled_yes h v ev n en past =
        let is : ended t work later i ≡ true = eq-eqb (work - at later i) t (rw (← later_unsettled) h) in
        let after : later_next t work cost later i ≡ at later' i - at cost i = rw (is, later_unsettled) in
        record {
          later_is = filled_turn (later_next t work cost later) i later later' s.later_is _ ll (λ e. sym after);
          begin_is = filled_turn _ i begin begin' s.begin_is _ lb (λ e. rw (is, e));
          best_is = filled_turn _ i best best' s.best_is v lm (λ e. ev ∙ rw (is, e, begin_unsettled));
          past = lesser_past n next (work - (at later' i - at cost i)) t en s.past past;
          most = let low : n ≤ next = lesser_left n next _ en in omega (arith, s.most, low);
          each = next_each n (lesser_left n next _ en) (rw after (lesser_right n next _ en));
        }

    -- It does not.
    pub settled_no :
        (work - at later' i ≡ t → ⊥) → (n : ℕ) → n ≡ min next (work - at later' i) → t < work - at later' i
        → Settled (i + 1) t work period cost later begin best later' begin' best' n
    settled_no h n en past =
        let is : ended t work later i ≡ false = ne_eqb (work - at later i) t (rw (← later_unsettled) h) in
        let after : later_next t work cost later i ≡ at later' i = rw (is, later_unsettled) in
        record {
          later_is = filled_stays (later_next t work cost later) i later later' s.later_is ll (rw is);
          begin_is = filled_stays _ i begin begin' s.begin_is lb (rw is);
          best_is = filled_stays _ i best best' s.best_is lm (rw is);
          past = lesser_past n next (work - at later' i) t en s.past past;
          most = let low : n ≤ next = lesser_left n next _ en in omega (arith, s.most, low);
          each = next_each n (lesser_left n next _ en) (rw after (lesser_right n next _ en));
        }

  -- Row i is settled, whether its instance ended or not.
  pub record Turned (later' begin' best' : List ℕ) (next i : ℕ) : Type 0 where
    pub later_size : length later' ≡ length later
    pub begin_size : length begin' ≡ length begin
    pub best_size : length best' ≡ length best
    pub within : at later' i ≤ work
    pub turn : (n : ℕ) → n ≡ min next (work - at later' i) → Settled (i + 1) t work period cost later begin best later' begin' best' n

  module _
      {tied i next : ℕ} {later' begin' best' : List ℕ} (l : i < tied) (q : Sought tied t work cost later begin)
      (ll : i < length later) (lb : i < length begin) (lm : i < length best)
      (s : Settled i t work period cost later begin best later' begin' best' next) where
    sizes : (length later' ≡ length later) × (length begin' ≡ length begin) × (length best' ≡ length best)
    sizes = (rw s.later_is (length_filled _ i later (omega arith)), rw s.begin_is (length_filled _ i begin (omega arith)), rw s.best_is (length_filled _ i best (omega arith)))

    pub unsettled_rises : t + at later' i ≤ work
    unsettled_rises = omega (arith, later_unsettled s ll lb lm, q.rises i l)

    pub unsettled_begun : at begin' i < t
    unsettled_begun = omega (arith, begin_unsettled s ll lb lm, q.begun i l)

    pub unsettled_whole : work - at later' i ≡ t → at cost i ≤ at later' i
    unsettled_whole h =
        let e : at later' i ≡ at later i = later_unsettled s ll lb lm in
        rw e (q.whole i l (omega (arith, e, unsettled_rises, q.past)))

    pub turned_yes :
        1 ≤ at cost i → work - at later' i ≡ t → (v : ℕ) → v ≡ max (at best' i) (t - at begin' i)
        → Turned (set later' i (at later' i - at cost i)) (set begin' i (at begin' i + at period i)) (set best' i v) next i
    turned_yes p h v ev =
        let same : at (set later' i (at later' i - at cost i)) i ≡ at later' i - at cost i = get_or-set_same later' i (at later' i - at cost i) 0 (omega (arith, sizes.0)) in
        let whole : at cost i ≤ at later' i = unsettled_whole h in
        let past : t < work - (at later' i - at cost i) = omega (arith, unsettled_rises) in
        record {
          later_size = simp length-set sizes.0;
          begin_size = simp length-set sizes.1;
          best_size = simp length-set sizes.2;
          within = rw same (omega (arith, unsettled_rises));
          turn = λ n en. settled_yes s ll lb lm h v ev n (en ∙ rw same) past;
        }

    pub turned_no : (work - at later' i ≡ t → ⊥) → Turned later' begin' best' next i
    turned_no h = record {
      later_size = sizes.0;
      begin_size = sizes.1;
      best_size = sizes.2;
      within = omega (arith, unsettled_rises);
      turn = λ n en. settled_no s ll lb lm h n en (omega (arith, unsettled_rises));
    }

-- The climb to the busy length itself: from t to all the work that t asks for.
module _ {n : ℕ} {period cost : List ℕ} (ok : Ranged n period cost) (any : 0 < n) where
  pub climb_on :
      {t w : ℕ} {due later begin best : List ℕ} → Climbing n 0 t t w period cost due later begin best
      → Climbing n 0 t w w period cost due later begin best
  climb_on {t} {w} c = record {
    pos = c.pos;
    order = omega (arith, c.work_is, below_rises (work_of_rising ok any) c.pos c.below);
    below = rw c.work_is (below_step (work_of_rising ok any) c.below);
    work_is = c.work_is;
    due_is = c.due_is;
    later_most = c.later_most;
    each = λ i l. absurd (omega arith);
  }

  pub climb_found :
      {t w : ℕ} {due later begin best : List ℕ} → Climbing n 0 t t w period cost due later begin best → w ≡ t → Least (work_of n period cost) t
  climb_found c e = below_stop (work_of_rising ok any) c.pos c.below (sym c.work_is ∙ e)

  pub climb_past :
      {t w limit : ℕ} {due later begin best : List ℕ} → Climbing n 0 t t w period cost due later begin best → limit < w
      → Unanswered (work_of n period cost) limit
  climb_past c h = below_past (work_of_rising ok any) (climb_on c).below h

  -- Turns of the loop that finds it.
  pub span_first :
      {w : ℕ} {due later due' later' : List ℕ} → Begun n period cost due later due' later' w
      → Climbing n 0 1 1 w period cost due' later' [] []
  span_first b = climb_first ok 0 (omega arith) b (λ i l. absurd (omega arith)) (λ i l. absurd (omega arith))

  pub span_next :
      {t w fresh : ℕ} {due later due' later' : List ℕ} → Climbing n 0 t t w period cost due later [] []
      → Advanced n w period cost due later due' later' fresh → Climbing n 0 w w (w + fresh) period cost due' later' [] []
  span_next c a = climb_advance ok (omega arith) (climb_on c) a
