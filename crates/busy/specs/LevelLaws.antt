-- Laws of a level as it is gathered and solved.
use Rattle.std.specs.Prelude.{◌≡◌, Bool, ◌&&◌, List, ℕ, ◌+◌, ◌*◌, ◌-◌, ◌≤◌, ◌<◌, length, set, ◌⊎◌}
use Rattle.std.proofs.Math.Path.{refl, ap, sym}
use Rattle.std.proofs.Common.{◌∙◌, length-set, below_more as more_below, inl, inr}
use Rattle.std.proofs.Math.Bool.{true, false, cond}
use native.Mathlib.Omega.{arith}
use Rattle.std.proofs.Math.Nat.{add_assoc}
use Rattle.std.proofs.Math.Decide.{dec_lt, ℕ_discrete}
use Rattle.std.proofs.Math.Dec.{ltb, leb, eqb}
use borrow.Author.Tests.{eq-eqb, ne_eqb, eqb-true, lt-ltb, le-ltb, le-leb, lt-leb}
use Rattle.facts.specs.Sums.{sum_if}
use Rattle.facts.specs.SumsLaws.{sum_part, sum_none, sum_if_none, sum_ext, sum_add}
use Rattle.facts.specs.TestsLaws.{and_left, and_right}
use Rattle.facts.specs.Rounding.{ceil}
use Rattle.table.specs.Table.{at}
use Rattle.table.specs.Plan.{Plan}
use Rattle.equations.specs.Row.{work, Greatest, RowBounds}
use Rattle.equations.specs.Beside.{level, row_of}
use Rattle.equations.specs.RowLaws.{row_ext}
use Rattle.equations.specs.BesideLaws.{Tied, work_level, work_tied}
use Rattle.facts.specs.Least.{Least, Unanswered}
use Rattle.busy.specs.General.{least_ext, unanswered_ext}
use Rattle.busy.specs.Collected.{count_if, collected}
use Rattle.busy.specs.CollectedLaws.{count_apart, count_yes, count_no, collected_yes, collected_no, length_collected, collected_kept, Holds, held, found, sum_collected, Lies, missed, hit, lies}
use Rattle.busy.specs.Climb.{Ranged, work_of, gathered_row}
use Rattle.busy.specs.ClimbLaws.{work_gathered}
use Rattle.busy.specs.Level.{Level, level_by, Roomy, Lent, plan_by, Usable, chosen, chosen_in, pushed, gathered, Sound, level_work, level_row, LevelOf, TiedBounds, Laid, Solved, Analysed, Partly, Going}
use Rattle.busy.specs.Busy.{limit}

module _ (b : ℕ → Bool) (period time : List ℕ) (l : Level) where
  pub gathered_none : l ≡ gathered b period time 0 l
  unfolding gathered collected
  gathered_none = let z : l.count + count_if 0 b ≡ l.count = omega (arith, sum_if_none b (λ i. 1)) in rw z

  -- The level after one row more, that passes or not.
  abbrev taken : ℕ → Level → Level
  taken n x = pushed n (at period n) (at time n) x

  pub gathered_yes : (n : ℕ) (x : Level) → x ≡ gathered b period time n l → b n ≡ true → taken n x ≡ gathered b period time (n + 1) l
  unfolding gathered
  gathered_yes n x e t =
      rw (e, collected_yes b (λ r. r) l.count n l.index t, collected_yes b (at period) l.count n l.period t, collected_yes b (at time) l.count n l.cost t, count_yes n b t, add_assoc l.count (count_if n b) 1)

  pub gathered_no : (n : ℕ) (x : Level) → x ≡ gathered b period time n l → b n ≡ false → x ≡ gathered b period time (n + 1) l
  unfolding gathered
  gathered_no n x e t =
      e ∙ rw (collected_no b (λ r. r) l.count n l.index t, collected_no b (at period) l.count n l.period t, collected_no b (at time) l.count n l.cost t, count_no n b t)

  -- There is room for a row that passes.
  pub gathered_room : (n rows : ℕ) → n < rows → l.count + count_if rows b ≤ 128 → b n ≡ true → (x : Level) → x ≡ gathered b period time n l → x.count < 128
  unfolding gathered sum_if
  gathered_room n rows h room t x e =
      let more : count_if (n + 1) b ≤ count_if rows b = sum_part (λ i. cond (b i) 1 0) (n + 1) rows (omega arith) in
      let is : x.count ≡ l.count + count_if n b = rw e in
      omega (arith, is, more, count_yes n b t)

  -- The loop over the rows stands at row n; y is what the test answered of it.
  abbrev pub Gathering : ℕ → ℕ → ℕ → List ℕ → List ℕ → List ℕ → Type 0
  Gathering rows n count index period' cost =
      (n ≤ rows) × (length index ≡ length l.index) × (length period' ≡ length l.period) × (length cost ≡ length l.cost)
      × (level_by l.tied count index period' cost ≡ gathered b period time n l)

  module _
      {rows n count : ℕ} {index period' cost : List ℕ} (g : Gathering rows n count index period' cost) (h : n < rows) {y : Bool} (e : y ≡ b n) where
    pub gathering_room : l.count + count_if rows b ≤ 128 → y ≡ true → count < 128
    gathering_room room t = gathered_room n rows h room (sym e ∙ t) (level_by l.tied count index period' cost) g.4

    pub gathering_yes :
        y ≡ true → {count'' : ℕ} {index'' period'' cost'' : List ℕ} → index'' ≡ set index count n → period'' ≡ set period' count (at period n)
        → cost'' ≡ set cost count (at time n) → count'' ≡ count + 1 → Gathering rows (n + 1) count'' index'' period'' cost''
    gathering_yes t ei ep ec en =
        rw (ei, ep, ec, en)
        (omega arith, simp length-set g.1, simp length-set g.2, simp length-set g.3, gathered_yes n (level_by l.tied count index period' cost) g.4 (sym e ∙ t))

    pub gathering_no :
        y ≡ false → {count'' : ℕ} {index'' period'' cost'' : List ℕ} → index'' ≡ index → period'' ≡ period' → cost'' ≡ cost → count'' ≡ count
        → Gathering rows (n + 1) count'' index'' period'' cost''
    gathering_no t ei ep ec en =
        rw (ei, ep, ec, en)
        (omega arith, g.1, g.2, g.3, gathered_no n (level_by l.tied count index period' cost) g.4 (sym e ∙ t))

  pub gathered_all :
      {rows n count : ℕ} {index period' cost : List ℕ} → rows ≤ n → Gathering rows n count index period' cost
      → level_by l.tied count index period' cost ≡ gathered b period time rows l
  gathered_all {rows} {n} h g = let same : n ≡ rows = omega (arith, g.0) in rw (← same) g.4

  pub gathered_sizes :
      (n : ℕ) (x : Level) → x ≡ gathered b period time n l
      → (length x.index ≡ length l.index) × (length x.period ≡ length l.period) × (length x.cost ≡ length l.cost)
  unfolding gathered
  gathered_sizes n x e = rw e (length_collected b l.count (λ r. r) n l.index, length_collected b l.count (at period) n l.period, length_collected b l.count (at time) n l.cost)

-- What the test answered of numbers that were read.
pub chosen_read :
    (tied : Bool) {p q a b p' q' a' b' : ℕ} {x y : Bool} → x ≡ chosen p q a b tied → p ≡ p' → q ≡ q' → a ≡ a' → b ≡ b' → x ≡ y
    → chosen p' q' a' b' tied ≡ y
chosen_read tied e f g h i j = rw (← f, ← g, ← h, ← i) (sym e ∙ j)

-- What one gathering adds to a level with room for it.
module _
    (b : ℕ → Bool) (period time : List ℕ) (n : ℕ) (l : Level) (room : l.count + count_if n b ≤ 128)
    (zi : length l.index ≡ 128) (zp : length l.period ≡ 128) (zc : length l.cost ≡ 128) where
  abbrev after : Level
  after = gathered b period time n l

  -- Position i holds row k of the lists.
  pub record Entry (x : Level) (i k : ℕ) : Type 0 where
    pub row : k < n
    pub passes : b k ≡ true
    pub index : at x.index i ≡ k
    pub period_is : at x.period i ≡ at period k
    pub cost_is : at x.cost i ≡ at time k

  entry : (j k : ℕ) → Holds b l.count n j k → Entry after (l.count + j) k
  unfolding gathered
  entry j k h = record {
    row = h.below;
    passes = h.passes;
    index = h.is (λ r. r) l.index 0 (omega arith);
    period_is = h.is (at period) l.period 0 (omega arith);
    cost_is = h.is (at time) l.cost 0 (omega arith);
  }

  pub gathered_entry : (i : ℕ) → l.count ≤ i → i < after.count → (k : ℕ) × Entry after i k
  unfolding gathered
  gathered_entry i lo hi =
      let w = held b l.count n (i - l.count) (omega arith) in
      let e : l.count + (i - l.count) ≡ i = omega arith in
      (w.0, rw e at (entry (i - l.count) w.0 w.1))

  pub gathered_found : (k : ℕ) → k < n → b k ≡ true → (i : ℕ) × (l.count ≤ i) × (i < after.count) × Entry after i k
  unfolding gathered
  gathered_found k h t =
      let w = found b l.count n k h t in
      (l.count + w.0, omega arith, omega (arith, w.1), entry w.0 k w.2)

  pub gathered_kept :
      (i : ℕ) → i < l.count
      → (at after.index i ≡ at l.index i) × (at after.period i ≡ at l.period i) × (at after.cost i ≡ at l.cost i)
  unfolding gathered
  gathered_kept i h = (collected_kept b l.count (λ r. r) n l.index i 0 h, collected_kept b l.count (at period) n l.period i 0 h, collected_kept b l.count (at time) n l.cost i 0 h)

  pub gathered_work : (t : ℕ) → level_work after t ≡ level_work l t + sum_if n b (λ k. ceil t (at period k) * at time k)
  unfolding gathered work_of
  gathered_work t = sum_collected b l.count (λ p c. ceil t p * c) (at period) (at time) n l.period l.cost (omega arith) (omega arith)

work_none : (period cost : List ℕ) (t : ℕ) → work_of 0 period cost t ≡ 0
unfolding work_of
work_none period cost t = sum_none _

-- Each row of a level is tied or more urgent, and not both.
module _ (rows : ℕ) (period processor priority time : List ℕ) (r : ℕ) where
  abbrev P : Plan
  P = plan_by rows period processor priority time

  abbrev ties : ℕ → Bool
  ties = chosen_in processor priority (at processor r) (at priority r) true

  abbrev urgent : ℕ → Bool
  urgent = chosen_in processor priority (at processor r) (at priority r) false

  pub apart : (k : ℕ) → ties k ≡ true → urgent k ≡ false
  unfolding chosen
  apart k e = go (eqb (at processor k) (at processor r)) e
    where
      go : (x : Bool) → x && eqb (at priority k) (at priority r) ≡ true → x && ltb (at priority r) (at priority k) ≡ false
      go true t = let same : at priority k ≡ at priority r = eqb-true (at priority k) (at priority r) t in le-ltb (at priority r) (at priority k) (omega arith)
      go false t = refl

  pub ties_tied : (k : ℕ) → ties k ≡ true → Tied P k r
  unfolding chosen
  ties_tied k e = record {
    processor = eqb-true (at processor k) (at processor r) (and_left (eqb (at processor k) (at processor r)) _ e);
    priority = eqb-true (at priority k) (at priority r) (and_right (eqb (at processor k) (at processor r)) _ e);
  }

  pub ties_own : ties r ≡ true
  unfolding chosen
  ties_own = rw (eq-eqb (at processor r) (at processor r) refl, eq-eqb (at priority r) (at priority r) refl)

  split : (f : ℕ → ℕ) (k : ℕ) → cond (ties k) (f k) 0 + cond (urgent k) (f k) 0 ≡ cond (level P r k) (f k) 0
  unfolding chosen level
  split f k = go (eqb (at processor k) (at processor r)) (dec_lt (at priority k) (at priority r)) (ℕ_discrete (at priority k) (at priority r))
    where
      go : (x : Bool) → Dec (at priority k < at priority r) → Dec (at priority k ≡ at priority r)
          → cond (x && eqb (at priority k) (at priority r)) (f k) 0 + cond (x && ltb (at priority r) (at priority k)) (f k) 0
          ≡ cond (x && leb (at priority r) (at priority k)) (f k) 0
      go false d e = refl
      go true (yes d) e = rw (ne_eqb (at priority k) (at priority r) (λ q. omega arith), le-ltb (at priority r) (at priority k) (omega arith), lt-leb (at priority r) (at priority k) d)
      go true (no d) (yes e) = rw (eq-eqb (at priority k) (at priority r) e, le-ltb (at priority r) (at priority k) (omega arith), le-leb (at priority r) (at priority k) (omega arith)) (omega arith)
      go true (no d) (no e) = rw (ne_eqb (at priority k) (at priority r) e, lt-ltb (at priority r) (at priority k) (omega arith), le-leb (at priority r) (at priority k) (omega arith)) (omega arith)

  pub sum_split : (f : ℕ → ℕ) → sum_if rows ties f + sum_if rows urgent f ≡ sum_if rows (level P r) f
  unfolding sum_if
  sum_split f = sym (sum_add rows (λ k. cond (ties k) (f k) 0) (λ k. cond (urgent k) (f k) 0)) ∙ sum_ext rows (λ k l. split f k)

  -- A level whose rows so far are the tied ones.
  abbrev pub marked : Level → Level
  marked x = record { tied = x.count; count = x.count; index = x.index; period = x.period; cost = x.cost }

  module _
      (ok : Usable rows period processor priority time) (l : r < rows) (index₀ period₀ cost₀ : List ℕ) (size : Roomy index₀ period₀ cost₀) where
    abbrev nothing : Level
    nothing = level_by 0 0 index₀ period₀ cost₀

    abbrev first : Level
    first = gathered ties period time rows nothing

    abbrev whole : Level
    whole = gathered urgent period time rows (marked first)

    pub first_count : first.count ≡ count_if rows ties
    unfolding gathered
    first_count = omega arith

    pub all_room : count_if rows ties + count_if rows urgent ≤ 128
    all_room = omega (arith, count_apart rows ties urgent (λ k h. apart k), ok.few)

    pub first_room : 0 + count_if rows ties ≤ 128
    first_room = omega (arith, all_room)

    pub whole_room : first.count + count_if rows urgent ≤ 128
    whole_room = omega (arith, all_room, first_count)

    first_sizes : (length first.index ≡ 128) × (length first.period ≡ 128) × (length first.cost ≡ 128)
    first_sizes = let g = gathered_sizes ties period time nothing rows first refl in (g.0 ∙ size.index_size, g.1 ∙ size.period_size, g.2 ∙ size.cost_size)

    whole_sizes : (length whole.index ≡ 128) × (length whole.period ≡ 128) × (length whole.cost ≡ 128)
    whole_sizes = let g = gathered_sizes urgent period time (marked first) rows whole refl in (g.0 ∙ first_sizes.0, g.1 ∙ first_sizes.1, g.2 ∙ first_sizes.2)

    whole_count : whole.count ≡ first.count + count_if rows urgent
    unfolding gathered
    whole_count = refl

    whole_tied : whole.tied ≡ first.count
    unfolding gathered
    whole_tied = refl

    tied_entry : (i : ℕ) → i < first.count → (k : ℕ) × Entry ties period time rows nothing first_room size.index_size size.period_size size.cost_size first i k
    tied_entry i h = gathered_entry ties period time rows nothing first_room size.index_size size.period_size size.cost_size i (omega arith) h

    kept : (i : ℕ) → i < first.count → (at whole.index i ≡ at first.index i) × (at whole.period i ≡ at first.period i) × (at whole.cost i ≡ at first.cost i)
    kept i h = gathered_kept urgent period time rows (marked first) whole_room first_sizes.0 first_sizes.1 first_sizes.2 i h

    -- Each position holds some row's period and time.
    from : (i : ℕ) → i < whole.count → (k : ℕ) × (k < rows) × (at whole.period i ≡ at period k) × (at whole.cost i ≡ at time k)
    from i h = go (dec_lt i first.count)
      where
        go : Dec (i < first.count) → (k : ℕ) × (k < rows) × (at whole.period i ≡ at period k) × (at whole.cost i ≡ at time k)
        go (yes d) = let w = tied_entry i d in (w.0, w.1.row, (kept i d).1 ∙ w.1.period_is, (kept i d).2 ∙ w.1.cost_is)
        go (no d) =
            let w = gathered_entry urgent period time rows (marked first) whole_room first_sizes.0 first_sizes.1 first_sizes.2 i (omega arith) h in
            (w.0, w.1.row, w.1.period_is, w.1.cost_is)

    ranged : Ranged whole.count whole.period whole.cost
    ranged = record {
      few = omega (arith, whole_count, whole_room);
      periods = omega (arith, whole_count, whole_room, whole_sizes.1);
      costs = omega (arith, whole_count, whole_room, whole_sizes.2);
      period_least = λ i h. (let w = from i h in rw w.2 (ok.period_least w.0 w.1));
      period_most = λ i h. (let w = from i h in rw w.2 (ok.period_most w.0 w.1));
      cost_least = λ i h. (let w = from i h in rw w.3 (ok.time_least w.0 w.1));
      cost_most = λ i h. (let w = from i h in rw w.3 (ok.time_most w.0 w.1));
    }

    level_work_is : (t : ℕ) → level_work whole t ≡ work (row_of P r) t
    level_work_is t =
        let f : ℕ → ℕ = λ k. ceil t (at period k) * at time k in
        let two : level_work whole t ≡ level_work first t + sum_if rows urgent f = gathered_work urgent period time rows (marked first) whole_room first_sizes.0 first_sizes.1 first_sizes.2 t in
        let one : level_work first t ≡ level_work nothing t + sum_if rows ties f = gathered_work ties period time rows nothing first_room size.index_size size.period_size size.cost_size t in
        let none : level_work nothing t ≡ 0 = work_none period₀ cost₀ t in
        omega (arith, two, one, none, sum_split f, work_level P r t l)

    own : (i : ℕ) × (0 ≤ i) × (i < first.count) × Entry ties period time rows nothing first_room size.index_size size.period_size size.cost_size first i r
    own = gathered_found ties period time rows nothing first_room size.index_size size.period_size size.cost_size r l ties_own

    pub level_of : LevelOf P r whole
    level_of = record {
      sound = record { tied_most = omega (arith, whole_tied, whole_count); any = omega (arith, own.2, whole_count); ranged = ranged; indices = omega (arith, whole_count, whole_room, whole_sizes.0) };
      index_row = λ i h. (let w = tied_entry i (here i h) in rw ((kept i (here i h)).0, w.1.index) w.1.row);
      index_tied = λ i h. (let w = tied_entry i (here i h) in rw ((kept i (here i h)).0, w.1.index) (ties_tied w.0 w.1.passes));
      period_is = λ i h. (let w = tied_entry i (here i h) in rw ((kept i (here i h)).0, w.1.index) ((kept i (here i h)).1 ∙ w.1.period_is));
      cost_is = λ i h. (let w = tied_entry i (here i h) in rw ((kept i (here i h)).0, w.1.index) ((kept i (here i h)).2 ∙ w.1.cost_is));
      work_is = level_work_is;
      own = own.0;
      own_tied = omega (arith, own.2, whole_tied);
      own_is = (kept own.0 own.2).0 ∙ own.3.index;
    }
      where
        here : (i : ℕ) → i < whole.tied → i < first.count
        here i h = omega (arith, whole_tied)

    -- The same, for levels that are known to be gathered so.
    module _ (x : Level) (e : x ≡ first) where
      pub room_after : x.count + count_if rows urgent ≤ 128
      room_after = let same : x.count ≡ first.count = ap (λ (y : Level). y.count) e in omega (arith, same, whole_room)

      pub level_built : (y : Level) → y ≡ gathered urgent period time rows (marked x) → LevelOf P r y
      level_built y f = rw (f ∙ ap (λ (u : Level). gathered urgent period time rows (marked u)) e) level_of

-- The numbers of a level's tied rows are those of the plan's rows.
module _ {P : Plan} {r : ℕ} {l : Level} (o : LevelOf P r l) (lr : r < P.rows) where
  row_is : (i : ℕ) → i < l.tied → level_row l i ≡ row_of P (at l.index i)
  unfolding gathered_row row_of
  row_is i h =
      row_ext (o.period_is i h) (o.cost_is i h)
      (λ t.
      work_gathered o.sound.ranged i t (omega (arith, o.sound.tied_most)) ∙ o.work_is t
      ∙ sym (work_tied P (at l.index i) r t (o.index_row i h) lr (o.index_tied i h)))

  tied_solved :
      {D : ℕ} {bound : List ℕ} → Least (level_work l) D → TiedBounds l D bound → (i : ℕ) → i < l.tied
      → RowBounds (row_of P (at l.index i)) D (ceil D (at l.period i)) (at bound i)
  unfolding row_of
  tied_solved {D} d b i h = record {
    busy = least_ext (λ t. o.work_is t ∙ sym (work_tied P (at l.index i) r t (o.index_row i h) lr (o.index_tied i h))) d;
    instances = rw (o.period_is i h);
    bound = rw (row_is i h) at (b.each i h);
  }

-- One turn of the analysis: the row is solved already,
pub partly_skip :
    {P : Plan} {busy instances bound : List ℕ} {row : ℕ} → row < P.rows → (at busy row ≡ 0 → ⊥)
    → Partly P busy instances bound row → Partly P busy instances bound (row + 1)
partly_skip {P} {busy} {instances} {bound} {row} l ne p = record {
  done = more_below (λ (k : ℕ). Solved P busy instances bound k) row p.done (here (p.each row l));
  each = p.each;
}
  where
    here : (at busy row ≡ 0) ⊎ Solved P busy instances bound row → Solved P busy instances bound row
    here (inl z) = absurd (ne z)
    here (inr s) = s

-- or it is solved with the rows tied with it.
module _
    {P : Plan} {r D : ℕ} {l : Level} {best busy instances bound busy' instances' bound' : List ℕ} (lr : r < P.rows)
    (lb : P.rows ≤ length busy) (li : P.rows ≤ length instances) (lc : P.rows ≤ length bound)
    (o : LevelOf P r l) (d : Least (level_work l) D) (within : D ≤ limit) (ends : TiedBounds l D best)
    (laid : Laid l.tied D l.index l.period best busy instances bound busy' instances' bound') where
  -- What a row's entries are after the numbers are laid.
  data Entries (k : ℕ) : Type 0 where
    as_before : (at busy' k ≡ at busy k) → (at instances' k ≡ at instances k) → (at bound' k ≡ at bound k) → (k ≡ r → ⊥) → Entries k
    solved : Solved P busy' instances' bound' k → Entries k

  entries : (k : ℕ) → k < P.rows → Entries k
  entries k lk = go (lies (at l.index) l.tied k)
    where
      go : Lies (at l.index) l.tied k → Entries k
      go (missed none same) =
          as_before (rw laid.busy_is (same _ busy 0)) (rw laid.instances_is (same _ instances 0)) (rw laid.bound_is (same _ bound 0))
          (λ e. none o.own o.own_tied (o.own_is ∙ sym e))
      go (hit i h e same) =
          let b : at busy' k ≡ D = rw laid.busy_is (same (λ j. D) busy 0 (omega arith)) in
          let m : at instances' k ≡ ceil D (at l.period i) = rw laid.instances_is (same (λ j. ceil D (at l.period j)) instances 0 (omega arith)) in
          let c : at bound' k ≡ at best i = rw laid.bound_is (same (at best) bound 0 (omega arith)) in
          solved (record { bounds = rw (b, m, c) (rw e at (tied_solved o lr d ends i h)); within = rw b within })

  pub partly_laid : Partly P busy instances bound r → Partly P busy' instances' bound' (r + 1)
  partly_laid p = record {
    done = λ k h. now k (omega arith) (entries k (omega arith));
    each = λ k h. still k h (entries k h) (p.each k h);
  }
    where
      keeps : (k : ℕ) → (at busy' k ≡ at busy k) → (at instances' k ≡ at instances k) → (at bound' k ≡ at bound k) → Solved P busy instances bound k → Solved P busy' instances' bound' k
      keeps k b m c s = record { bounds = rw (b, m, c) s.bounds; within = rw b s.within }

      now : (k : ℕ) → k ≤ r → Entries k → Solved P busy' instances' bound' k
      now k h (solved s) = s
      now k h (as_before b m c ne) = keeps k b m c (p.done k (below k h ne))
        where
          below : (k : ℕ) → k ≤ r → (k ≡ r → ⊥) → k < r
          below k h ne = omega arith

      still : (k : ℕ) → k < P.rows → Entries k → (at busy k ≡ 0) ⊎ Solved P busy instances bound k → (at busy' k ≡ 0) ⊎ Solved P busy' instances' bound' k
      still k h (solved s) q = inr s
      still k h (as_before b m c ne) (inl z) = inl (b ∙ z)
      still k h (as_before b m c ne) (inr s) = inr (keeps k b m c s)

-- What laying the numbers of a level's tied rows reads is there.
pub tied_periods : {l : Level} → Sound l → (i : ℕ) → i < l.tied → (0 < at l.period i) × (at l.period i ≤ 1000000)
tied_periods {l} s i h =
    let in_it : i < l.count = omega (arith, s.tied_most) in
    (s.ranged.period_least i in_it, s.ranged.period_most i in_it)

module _
    {P : Plan} {busy₀ instances₀ bound₀ busy instances bound index period cost due later begin best : List ℕ} {row : ℕ}
    (g : Going P busy₀ instances₀ bound₀ busy instances bound index period cost due later begin best row)
    (lb : P.rows ≤ length busy₀) (li : P.rows ≤ length instances₀) (lc : P.rows ≤ length bound₀) where
  pub tied_places :
      {l : Level} → LevelOf P row l → (i : ℕ) → i < l.tied
      → (at l.index i < length busy) × (at l.index i < length instances) × (at l.index i < length bound)
  tied_places {l} o i h =
      let here : at l.index i < P.rows = o.index_row i h in
      (omega (arith, g.busy_size), omega (arith, g.instances_size), omega (arith, g.bound_size))

  -- A turn: the lists at its end are those that its calls left.
  pub going_laid :
      {tied count D : ℕ} {index₁ period₁ cost₁ due₁ later₁ begin₁ best₁ busy₁ instances₁ bound₁ : List ℕ}
      → row < P.rows → LevelOf P row (level_by tied count index₁ period₁ cost₁) → Least (work_of count period₁ cost₁) D → D ≤ limit
      → ((i : ℕ) → i < tied → Greatest (gathered_row count period₁ cost₁ i) (ceil D (at period₁ i)) (at best₁ i))
      → Laid tied D index₁ period₁ best₁ busy instances bound busy₁ instances₁ bound₁
      → length busy₁ ≡ length busy → length instances₁ ≡ length instances → length bound₁ ≡ length bound
      → Lent index₁ period₁ cost₁ due₁ later₁ begin₁ best₁
      → {index' period' cost' due' later' begin' best' busy' instances' bound' : List ℕ}
      → busy' ≡ busy₁ → instances' ≡ instances₁ → bound' ≡ bound₁ → index' ≡ index₁ → period' ≡ period₁ → cost' ≡ cost₁
      → due' ≡ due₁ → later' ≡ later₁ → begin' ≡ begin₁ → best' ≡ best₁
      → Going P busy₀ instances₀ bound₀ busy' instances' bound' index' period' cost' due' later' begin' best' (row + 1)
  going_laid less o least within ends laid zb zi zc lent eb ei ec e₁ e₂ e₃ e₄ e₅ e₆ e₇ =
      rw (eb, ei, ec, e₁, e₂, e₃, e₄, e₅, e₆, e₇) (record {
        most = omega arith;
        busy_size = zb ∙ g.busy_size;
        instances_size = zi ∙ g.instances_size;
        bound_size = zc ∙ g.bound_size;
        partly = partly_laid less (omega (arith, g.busy_size)) (omega (arith, g.instances_size)) (omega (arith, g.bound_size)) o least within (record { each = ends }) laid g.partly;
        lent = lent;
      })

  pub going_skip :
      row < P.rows → (at busy row ≡ 0 → ⊥)
      → {index' period' cost' due' later' begin' best' busy' instances' bound' : List ℕ}
      → busy' ≡ busy → instances' ≡ instances → bound' ≡ bound → index' ≡ index → period' ≡ period → cost' ≡ cost
      → due' ≡ due → later' ≡ later → begin' ≡ begin → best' ≡ best
      → Going P busy₀ instances₀ bound₀ busy' instances' bound' index' period' cost' due' later' begin' best' (row + 1)
  going_skip less ne eb ei ec e₁ e₂ e₃ e₄ e₅ e₆ e₇ =
      rw (eb, ei, ec, e₁, e₂, e₃, e₄, e₅, e₆, e₇) (record {
        most = omega arith;
        busy_size = g.busy_size;
        instances_size = g.instances_size;
        bound_size = g.bound_size;
        partly = partly_skip less ne g.partly;
        lent = g.lent;
      })

-- Before the first turn no row is solved,
pub going_first :
    {P : Plan} {busy instances bound index period cost due later begin best : List ℕ}
    → ((k : ℕ) → k < P.rows → at busy k ≡ 0) → Lent index period cost due later begin best
    → Going P busy instances bound busy instances bound index period cost due later begin best 0
going_first none lent = record {
  most = omega arith;
  busy_size = refl;
  instances_size = refl;
  bound_size = refl;
  partly = record { done = λ k h. absurd (omega arith); each = λ k h. inl (none k h) };
  lent = lent;
}

-- and the analysis ends at a row with no busy length, or after all.
module _
    {P : Plan} {busy₀ instances₀ bound₀ busy instances bound index period cost due later begin best : List ℕ} {row : ℕ}
    (g : Going P busy₀ instances₀ bound₀ busy instances bound index period cost due later begin best row) where
  pub analysed_stuck :
      {tied count : ℕ} {index₁ period₁ cost₁ : List ℕ} → LevelOf P row (level_by tied count index₁ period₁ cost₁)
      → Unanswered (work_of count period₁ cost₁) limit → Analysed P busy instances bound row
  analysed_stuck o none = record { most = g.most; solved = g.partly.done; stuck = λ h. unanswered_ext o.work_is none }

  pub analysed_all : P.rows ≤ row → Analysed P busy instances bound row
  analysed_all h = record { most = g.most; solved = g.partly.done; stuck = λ l. absurd (omega arith) }
