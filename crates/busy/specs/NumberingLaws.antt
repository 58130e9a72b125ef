-- From what the parts promise to the outcome of the whole.
use Rattle.std.specs.Prelude.{◌≡◌, Bool, true, false, not, List, ℕ, ◌+◌, ◌≤◌, ◌<◌, length, Err, Ok}
use Rattle.std.proofs.Math.Path.{refl}
use Rattle.std.proofs.Common.{ap, sym, ◌∙◌, arith, add-one}
use Rattle.std.proofs.lemmas.Bool.{not-true, not-false}
use Rattle.facts.specs.Filled.{filled}
use Rattle.facts.specs.FilledLaws.{get_d_filled, length_filled}
use Rattle.table.specs.declared.refusal.Refusal.{Refusal}
use Rattle.table.specs.declared.refusal.Refusal.TheVariants.{NotAPlan, NoBusyLength, TooShort}
use Rattle.table.specs.Table.{Table, at, rows, long_enough, is_plan}
use Rattle.table.specs.TableLaws.{Checked, checked}
use Rattle.table.specs.Plan.{Plan, plan_of, cost}
use Rattle.table.specs.PlanLaws.{right_of, small_of}
use Rattle.equations.specs.Beside.{row_of}
use Rattle.equations.specs.BesideLaws.{SameRows, row_same}
use Rattle.busy.specs.Busy.{Numbers, Analysis}
use Rattle.busy.specs.Numbering.{RowLists, room_for_rows, rows_filled_in, Found, Unnumbered, no_plan, too_short, no_busy_length}
use Rattle.busy.specs.Climb.{Zeros}
use Rattle.busy.specs.Level.{plan_seen, Usable, Analysed}
use Rattle.planned.specs.View.{Viewed, viewed}
use Rattle.busy.specs.Rows.{Viewing, plan, none, numbers_of}
use Rattle.busy.specs.RowsLaws.{Seen, seen, unseen, viewed_seen}

module _ (T : Table) where
  -- No rows are seen where the table is no plan.
  pub refusing_no_plan : {before after : List ℕ} {n : ℕ} → Viewing T before after n → n ≡ 0 → (l : RowLists) → Unnumbered T l NotAPlan
  unfolding plan_of
  refusing_no_plan (none t e) z l = no_plan refl t
  refusing_no_plan (plan t e p) z l = absurd (omega (arith, e, (small_of T (checked T t)).some))

  -- The table is a plan with n rows, whose periods are the list's.
  pub record Ready (periods : List ℕ) (n : ℕ) : Type 0 where
    pub plan : is_plan T ≡ true
    pub count : n ≡ rows T
    pub usable : Usable n periods T.processor T.priority T.time
    pub same : SameRows (plan_seen n periods T) (plan_of T)

  ready_made :
      (before : List ℕ) {after : List ℕ} {n : ℕ} → length before ≡ 128 → is_plan T ≡ true → n ≡ rows T → after ≡ filled (plan_of T).period (rows T) before
      → Ready after n
  unfolding plan_of cost
  ready_made before {after} {n} size t e p = record { plan = t; count = e; usable = usable; same = same }
    where
      ok : Checked T
      ok = checked T t

      long : rows T ≤ length before
      long = omega (arith, ok.rows_most)

      read : (r : ℕ) → r < n → at after r ≡ (plan_of T).period r
      read r l = rw p (get_d_filled (plan_of T).period (rows T) r 0 before (omega arith))

      usable : Usable n after T.processor T.priority T.time
      usable = record {
        few = omega (arith, ok.rows_most);
        periods = let long' : length after ≡ length before = rw p (length_filled (plan_of T).period (rows T) before long) in omega (arith, long);
        processors = omega (arith, ok.row_lists.one);
        priorities = omega (arith, ok.row_lists.two);
        times = omega (arith, ok.row_lists.three);
        period_least = λ r l. rw (read r l) ((right_of T ok).period_pos r (omega arith));
        period_most = λ r l. rw (read r l) ((small_of T ok).period_most r (omega arith));
        time_least = λ r l. (ok.row r (omega arith)).time_least;
        time_most = λ r l. (ok.row r (omega arith)).time_most;
      }

      same : SameRows (plan_seen n after T) (plan_of T)
      same = record { rows = e; period = read; cost = λ r l. refl; processor = λ r l. refl; priority = λ r l. refl }

  pub ready : {before after : List ℕ} {n : ℕ} → length before ≡ 128 → Viewing T before after n → (n ≡ 0 → ⊥) → Ready after n
  ready size (none t e) ne = absurd (ne e)
  ready {before} size (plan t e p) ne = ready_made before size t e p

  -- What viewing the table's rows into lists of 128 entries says: they are ready,
  module _ (period : List ℕ) (first : List Bool) (zp : length period ≡ 128) (zf : length first ≡ 128) {v : Viewed} (e : v ≡ viewed T period first) where
    pub viewed_ready : {n : ℕ} → v.answer ≡ Ok n → Ready v.period n
    viewed_ready {n} a = go (viewed_seen T period first zp zf v e)
      where
        go : Seen T period v → Ready v.period n
        go (seen t b p) = ready_made _ zp t (let same : Ok n ≡ Ok (rows T) = sym a ∙ b in cc) p
        go (unseen t b) = let z : ◌≡◌ {A = ℕ} 0 1 = cc in absurd (omega arith)

    -- or the table is no plan.
    pub viewed_refused : {r : Refusal} → v.answer ≡ Err r → (l : RowLists) → Unnumbered T l r
    viewed_refused {r} a l = go (viewed_seen T period first zp zf v e)
      where
        go : Seen T period v → Unnumbered T l r
        go (seen t b p) = let z : ◌≡◌ {A = ℕ} 0 1 = cc in absurd (omega arith)
        go (unseen t b) = no_plan (let same : Err r ≡ Err NotAPlan = sym a ∙ b in cc) t

  module _ {periods : List ℕ} {n : ℕ} (q : Ready periods n) where
    abbrev P : Plan
    P = plan_seen n periods T

    ok : Checked T
    ok = checked T q.plan

    row_of_table : (r : ℕ) → r < n → row_of P r ≡ row_of (plan_of T) r
    row_of_table r l = row_same q.same r l

    -- The number of rows was seen: the lists are tested for it.
    pub room_is : (l : RowLists) (x : Bool) → long_enough n l.busy l.instances l.bound ≡ x → room_for_rows T l ≡ x
    room_is l x e = ap (λ (k : ℕ). long_enough k l.busy l.instances l.bound) (sym q.count) ∙ e

    pub refusing_room : (l : RowLists) → room_for_rows T l ≡ false → Unnumbered T l (TooShort n)
    refusing_room l e = too_short (ap TooShort q.count) q.plan e

    -- Where the analysis stopped before the last row, that row has no busy length.
    pub refusing_stuck :
        {busy instances bound : List ℕ} {done : ℕ} (l : RowLists) → room_for_rows T l ≡ true → Analysed P busy instances bound done → done < n
        → Unnumbered T l (NoBusyLength (done + 1))
    unfolding plan_of
    refusing_stuck {busy} {instances} {bound} {done} l z a h =
        no_busy_length (ap NoBusyLength (add-one done)) q.plan z
        (record {
          row = omega (arith, q.count);
          none = rw (row_of_table done h) at (a.stuck h);
          before = λ k lk. (at busy k, rw (row_of_table k (omega arith)) at (a.solved k lk).bounds.busy, (a.solved k lk).within);
        })

    module _ {busy instances bound : List ℕ} {done : ℕ} (a : Analysed P busy instances bound done) (all : n ≤ done) where
      abbrev N : Numbers
      N = numbers_of busy instances bound

      -- Else all rows have their numbers,
      analysis : Analysis T N
      unfolding plan_of
      analysis = record {
        row = λ r l. (let l' : r < n = omega (arith, q.count) in rw (row_of_table r l') at (a.solved r (omega arith)).bounds);
        within = λ r l. (a.solved r (omega (arith, q.count))).within;
      }

      -- and the lists are filled.
      pub found :
          {before after : RowLists}
          → after.busy ≡ filled (at busy) n before.busy → after.instances ≡ filled (at instances) n before.instances → after.bound ≡ filled (at bound) n before.bound
          → Found T before after n
      unfolding rows_filled_in
      found eb em er = record {
        numbers = N;
        analysis = analysis;
        lists = rw (eb, em, er, q.count);
        says = q.count;
      }

    -- What the whole answers: x says whether the lists are long enough.
    module _ (l : RowLists) {x : Bool} (e : x ≡ long_enough n l.busy l.instances l.bound) where
      pub answer_short : not x ≡ true → Unnumbered T l (TooShort n)
      answer_short t = refusing_room l (room_is l false (sym e ∙ not-true x t))

      pub answer_stuck :
          not x ≡ false → {busy instances bound : List ℕ} {done : ℕ} → Analysed P busy instances bound done → done < n
          → Unnumbered T l (NoBusyLength (done + 1))
      answer_stuck t a h = refusing_stuck l (room_is l true (sym e ∙ not-false x t)) a h

      pub answer_found :
          not x ≡ false → {busy instances bound : List ℕ} {done : ℕ} → Analysed P busy instances bound done → n ≤ done → {l' : RowLists}
          → (l'.busy ≡ filled (at busy) n l.busy) × (l'.instances ≡ filled (at instances) n l.instances) × (l'.bound ≡ filled (at bound) n l.bound)
          → (is_plan T ≡ true) × (room_for_rows T l ≡ true) × Found T l l' n
      answer_found t a all f = (q.plan, room_is l true (sym e ∙ not-false x t), found a all f.0 f.1 f.2)

  -- What the rows that were seen leave to the lists for their numbers.
  module _ {before after : List ℕ} {n : ℕ} (size : length before ≡ 128) (v : Viewing T before after n) (some : n ≡ 0 → ⊥) where
    pub seen_fits : {a b c : ℕ} → a ≡ 128 → b ≡ 128 → c ≡ 128 → (n ≤ a) × (n ≤ b) × (n ≤ c)
    seen_fits ea eb ec = let few : n ≤ 128 = (ready size v some).usable.few in (omega arith, omega arith, omega arith)

    pub seen_usable :
        {busy instances bound : List ℕ} → Zeros busy → Zeros instances → Zeros bound
        → Usable n after T.processor T.priority T.time
        × ((n ≤ length busy) × (n ≤ length instances) × (n ≤ length bound) × ((k : ℕ) → k < n → at busy k ≡ 0))
    seen_usable z i b = let fit = seen_fits z.size i.size b.size in ((ready size v some).usable, (fit.0, fit.1, fit.2, λ k h. z.zero k))
