-- The first half of demand 3, proved: over the analysis, and over the outcomes that the bounds' contract allows.
use Rattle.std.specs.Prelude.{◌≡◌, refl, Bool, false, pos, ◌≤ℤ◌, Err, Ok, Result}
use Rattle.std.proofs.Math.Path.{ap, sym}
use Rattle.std.proofs.Common.{◌∙◌, arith}
use Rattle.std.proofs.Math.Bool.{true}
use mathlib.Core.List.{List}
use Prim.Native.Nat.{ℕ, suc, ◌+◌, ◌≤◌, ◌<◌}
use Rattle.std.proofs.Math.Decide.{dec_lt}
use borrow.Author.Tests.{leb-true, le-leb}
use Rattle.std.proofs.Math.Dec.{leb}
use Rattle.std.specs.Int.Signed.{le_z}
use Rattle.facts.specs.SumsLaws.{sum_mono, sum_ext, sum_if_ext}
use Rattle.facts.specs.TestsLaws.{all_at, all_of, clash}
use Rattle.facts.specs.Rounding.{ceil}
use Rattle.facts.specs.LeastLaws.{Answer}
use Rattle.facts.specs.Filled.{filled}
use Rattle.facts.specs.FilledLaws.{get_d_filled}
use Rattle.table.specs.declared.refusal.Refusal.{Refusal}
use Rattle.table.specs.Table.{Table, at, first_row, rows, is_plan}
use Rattle.table.specs.TableLaws.{Checked, checked}
use Rattle.table.specs.Plan.{task_of, plan_of, in_force}
use Rattle.table.specs.PlanLaws.{right_of, task_row}
use Rattle.equations.specs.Row.{work, RowBounds}
use Rattle.equations.specs.RowLaws.{row_bounds}
use Rattle.equations.specs.BesideLaws.{proper_of, Lighter, busy_lighter, row_bounds_lighter}
use Rattle.bounds.specs.SlackLaws.{less_sign, less_mono}
use Rattle.bounds.specs.Bounds.{limit, equations, Numbers, Analysis, chain_bound, slack_of, accepted, Lists, needed, filled_in, Refusing, no_plan, too_short, no_busy_length, Bounding}
use Rattle.bounds.specs.BoundsLaws.{step_row, never_stuck}
use Rattle.bounds.specs.NoHarder.{NoHarder, NoLarger}

-- The second numbers are no larger on table T's rows.
pub record Smaller (T : Table) (N N' : Numbers) : Type 0 where
  pub busy : (r : ℕ) → r < rows T → N'.busy r ≤ N.busy r
  pub instances : (r : ℕ) → r < rows T → N'.instances r ≤ N.instances r
  pub bound : (r : ℕ) → r < rows T → N'.bound r ≤ N.bound r

module _ {T S : Table} (h : NoHarder T S) where
  pub same_first_row : (i : ℕ) → i ≤ T.tasks → first_row S i ≡ first_row T i
  unfolding first_row
  same_first_row i l = sum_ext i (λ j lj. h.steps j (omega arith))

  pub same_rows : rows S ≡ rows T
  unfolding rows
  same_rows = ap (λ (n : ℕ). first_row S n) h.tasks ∙ same_first_row T.tasks (omega arith)

  same_task : (r : ℕ) → task_of S r ≡ task_of T r
  unfolding task_of
  same_task r =
      sum_if_ext h.tasks {b = λ i. leb (first_row S (suc i)) r} {c = λ i. leb (first_row T (suc i)) r}
      (λ i l. rw (same_first_row (suc i) (omega (arith, h.tasks)))) (λ i l. refl)

  lighter : Checked T → Lighter (plan_of S) (plan_of T)
  unfolding plan_of
  lighter ok = record {
    rows = same_rows;
    period = λ r l. rw (same_task r) (h.period (task_of T r) (task_row T ok r (t_row l)).0);
    cost = λ r l. h.cost r (t_row l);
    processor = λ r l. h.processor r (t_row l);
    priority = λ r l. h.priority r (t_row l);
  }
    where
      t_row : {r : ℕ} → r < rows S → r < rows T
      t_row l = omega (arith, same_rows)

  module _ (ok_t : Checked T) (ok_s : Checked S) {N : Numbers} (a : Analysis T N) where
    -- The numbers of a row of S, where T's row has its own.
    one : (r : ℕ) → r < rows S → (D : ℕ) × (M : ℕ) × (R : ℕ) × RowBounds (equations S r) D M R × (D ≤ limit)
    unfolding plan_of
    one r l =
        let lt : r < rows T = omega (arith, same_rows) in
        let d : Answer (work (equations S r)) (N.busy r) = busy_lighter (right_of S ok_s) (right_of T ok_t) (lighter ok_t) r l (a.row r lt).busy in
        let b : (R : ℕ) × RowBounds (equations S r) d.value (ceil d.value (equations S r).period) R = row_bounds (proper_of (right_of S ok_s) r l) d.least in
        (d.value, ceil d.value (equations S r).period, b.0, b.1, omega (arith, d.fits, a.within r lt))

    pick : (r : ℕ) → Dec (r < rows S) → ℕ × ℕ × ℕ
    pick r (yes l) = let w = one r l in (w.0, w.1, w.2)
    pick r (no l) = (0, 0, 0)

    numbers : Numbers
    numbers = record {
      busy = λ r. (pick r (dec_lt r (rows S))).0;
      instances = λ r. (pick r (dec_lt r (rows S))).1;
      bound = λ r. (pick r (dec_lt r (rows S))).2;
    }

    picked : (r : ℕ) (d : Dec (r < rows S)) → r < rows S → RowBounds (equations S r) (pick r d).0 (pick r d).1 (pick r d).2 × ((pick r d).0 ≤ limit)
    unfolding pick
    picked r (yes l) h = let w = one r l in (w.3, w.4)
    picked r (no l) h = absurd (l h)

    analysed : Analysis S numbers
    unfolding numbers
    analysed = record {
      row = λ r l. (picked r (dec_lt r (rows S)) l).0;
      within = λ r l. (picked r (dec_lt r (rows S)) l).1;
    }

    -- S's numbers, whatever they are, are no larger.
    pub smaller : {N' : Numbers} → Analysis S N' → Smaller T N N'
    unfolding plan_of
    smaller {N'} b = record { busy = λ r l. (each r l).0; instances = λ r l. (each r l).1; bound = λ r l. (each r l).2 }
      where
        each : (r : ℕ) → r < rows T → (N'.busy r ≤ N.busy r) × (N'.instances r ≤ N.instances r) × (N'.bound r ≤ N.bound r)
        each r l =
            let ls : r < rows S = omega (arith, same_rows) in
            row_bounds_lighter (right_of S ok_s) (right_of T ok_t) (lighter ok_t) r ls (b.row r ls) (a.row r l)

    -- S has an analysis where T has one.
    pub no_harder_analysis : (N' : Numbers) × Analysis S N' × Smaller T N N'
    no_harder_analysis = (numbers, analysed, smaller analysed)

  module _ {N N' : Numbers} (s : Smaller T N N') where
    pub chain_smaller : (i : ℕ) → i < T.tasks → chain_bound S N' i ≤ chain_bound T N i
    unfolding chain_bound
    chain_smaller i l =
        rw (h.steps i l, same_first_row i (omega arith))
        (sum_mono (at T.steps i) (λ j lj. s.bound (first_row T i + j) (step_row T i j l lj)))

    pub slack_larger : (i : ℕ) → i < T.tasks → slack_of T N i ≤ℤ slack_of S N' i
    unfolding slack_of
    slack_larger i l = less_mono (in_force T i) (chain_bound T N i) (in_force S i) (chain_bound S N' i) (h.deadline i l) (chain_smaller i l)

    pub accepted_stays : accepted T N ≡ true → accepted S N' ≡ true
    unfolding accepted slack_of
    accepted_stays e = all_of S.tasks (λ i. le_z (pos 0) (slack_of S N' i)) (λ i l. stays i (omega (arith, h.tasks)))
      where
        stays : (i : ℕ) → i < T.tasks → le_z (pos 0) (slack_of S N' i) ≡ true
        stays i l =
            let before : leb (chain_bound T N i) (in_force T i) ≡ true = sym (less_sign (in_force T i) (chain_bound T N i)) ∙ all_at T.tasks (λ i. le_z (pos 0) (slack_of T N i)) e i l in
            less_sign (in_force S i) (chain_bound S N' i)
            ∙ le-leb (chain_bound S N' i) (in_force S i) (omega (arith, leb-true (chain_bound T N i) (in_force T i) before, h.deadline i l, chain_smaller i l))

    pub lists_smaller : (l l' : Lists) → NoLarger T (filled_in T N l) (filled_in S N' l')
    unfolding filled_in
    lists_smaller l l' = record {
      busy = λ r i. row N.busy N'.busy l.busy l'.busy r i (s.busy r i);
      instances = λ r i. row N.instances N'.instances l.instances l'.instances r i (s.instances r i);
      bound = λ r i. row N.bound N'.bound l.bound l'.bound r i (s.bound r i);
      chain = λ i j.
          rw (get_d_filled (chain_bound T N) T.tasks i 0 l.chain j, get_d_filled (chain_bound S N') S.tasks i 0 l'.chain (omega (arith, h.tasks)))
          (chain_smaller i j);
      slack = λ i j.
          rw (get_d_filled (slack_of T N) T.tasks i (pos 0) l.slack j, get_d_filled (slack_of S N') S.tasks i (pos 0) l'.slack (omega (arith, h.tasks)))
          (slack_larger i j);
    }
      where
        row : (f g : ℕ → ℕ) (x y : List ℕ) (r : ℕ) → r < rows T → g r ≤ f r → at (filled g (rows S) y) r ≤ at (filled f (rows T) x) r
        row f g x y r i e =
            rw (get_d_filled f (rows T) r 0 x i, get_d_filled g (rows S) r 0 y (omega (arith, same_rows))) e

-- Table S is a plan and no harder than table T, whose bounds are given: on lists that are long enough S's bounds are given
-- too, none larger and no slack smaller, and S is accepted if T is.
pub no_harder :
    (T S : Table) → NoHarder T S → (before after : Lists) (answer : ℕ) → Bounding T before after (Ok answer)
    → is_plan S ≡ true → (before' after' : Lists) → needed S before' ≡ 0 → (r : Result ℕ Refusal) → Bounding S before' after' r
    → (answer' : ℕ) × (r ≡ Ok answer') × NoLarger T after after' × (answer ≡ 1 → answer' ≡ 1)
no_harder T S h before after answer g plan before' after' room (Ok answer') b =
    let s : Smaller T g.2.numbers b.2.numbers = smaller h (checked T g.0) (checked S plan) g.2.analysis b.2.analysis in
    (answer', refl, rw (g.2.lists, b.2.lists) (lists_smaller h s before before'), stays s (accepted T g.2.numbers) refl)
  where
    stays : Smaller T g.2.numbers b.2.numbers → (x : Bool) → accepted T g.2.numbers ≡ x → answer ≡ 1 → answer' ≡ 1
    stays s true e q = b.2.says ∙ rw (accepted_stays h s e)
    stays s false e q =
        let z : answer ≡ 0 = g.2.says ∙ rw e in
        absurd (omega arith)
no_harder T S h before after answer g plan before' after' room (Err r) b = absurd (never b.0)
  where
    never : Refusing S before' r → ⊥
    never (no_plan e n) = clash plan n
    never (too_short e p q) = omega arith
    never (no_busy_length e p z q) =
        never_stuck (no_harder_analysis h (checked T g.0) (checked S plan) g.2.analysis).1 q
