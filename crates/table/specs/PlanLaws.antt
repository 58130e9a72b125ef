-- What the rows of a plan are, as functions of their number.
use Rattle.std.specs.Prelude.{ℕ, zero, suc, ◌+◌, ◌-◌, ◌≤◌, ◌<◌, ◌≡◌, true, false}
use Rattle.std.proofs.Common.{sym, ◌∙◌, le-leb, eq-eqb}
use Rattle.std.proofs.Math.Path.{ap}
use native.Mathlib.Omega.{arith}
use Rattle.std.proofs.Math.Decide.{dec_lt}
use Rattle.std.proofs.lemmas.Bool.{lt-leb, eqb-false}
use Rattle.std.proofs.Math.Dec.{leb}
use Rattle.facts.specs.Sums.{sum_if}
use Rattle.facts.specs.SumsLaws.{sum_none, sum_suc, sum_part, sum_if_none, sum_if_suc}
use Rattle.table.specs.Table.{Table, at, first_row, rows}
use Rattle.table.specs.TableLaws.{Checked}
use Rattle.table.specs.Plan.{Plan, task_of, cost, plan_of}

-- Periods and costs are above 0, row 0 is first, and a row that isn't first has the period of the row before it.
pub record Right (P : Plan) : Type 0 where
  pub period_pos : (r : ℕ) → r < P.rows → 0 < P.period r
  pub cost_pos : (r : ℕ) → r < P.rows → 0 < P.cost r
  pub first_zero : P.first 0 ≡ true
  pub chained : (r : ℕ) → suc r < P.rows → P.first (suc r) ≡ false → P.period (suc r) ≡ P.period r

-- A plan's numbers are small.
pub record Small (P : Plan) : Type 0 where
  pub some : 0 < P.rows
  pub few : P.rows ≤ 128
  pub period_most : (r : ℕ) → r < P.rows → P.period r ≤ 1000000
  pub cost_most : (r : ℕ) → r < P.rows → P.cost r ≤ 1000000
  pub processor_least : (r : ℕ) → r < P.rows → 1 ≤ P.processor r
  pub processor_most : (r : ℕ) → r < P.rows → P.processor r ≤ 16

module _ (T : Table) where
  pub first_row_none : first_row T 0 ≡ 0
  unfolding first_row
  first_row_none = sum_none (at T.steps)

  pub first_row_suc : (i : ℕ) → first_row T (suc i) ≡ first_row T i + at T.steps i
  unfolding first_row
  first_row_suc i = sum_suc i (at T.steps)

  pub first_row_mono : (i j : ℕ) → i ≤ j → first_row T i ≤ first_row T j
  unfolding first_row
  first_row_mono i j h = sum_part (at T.steps) i j h

  -- Row r is one of task i's rows.
  pub record Of (i r : ℕ) : Type 0 where
    pub from : first_row T i ≤ r
    pub to : r < first_row T (suc i)

  -- Each row below the first of task n is a row of a task below n.
  pub row_task : (n r : ℕ) → r < first_row T n → (i : ℕ) × (i < n) × Of i r
  row_task zero r h = absurd (omega (arith, first_row_none))
  row_task (suc n) r h = go (dec_lt r (first_row T n)) (row_task n r)
    where
      go : Dec (r < first_row T n) → (r < first_row T n → (i : ℕ) × (i < n) × Of i r) → (i : ℕ) × (i < suc n) × Of i r
      go (yes l) ih = let w = ih l in (w.0, omega (arith, w.1), w.2)
      go (no l) ih = (n, omega arith, record { from = omega arith; to = h })

  -- The tasks that have all their rows before a row of task i are those below i.
  counted : (i r n : ℕ) → Of i r → n ≤ i → sum_if n (λ j. leb (first_row T (suc j)) r) (λ j. 1) ≡ n
  counted i r zero o h = sum_if_none _ _
  counted i r (suc n) o h =
      let b : leb (first_row T (suc n)) r ≡ true = le-leb (first_row T (suc n)) r (omega (arith, first_row_mono (suc n) i h, o.from)) in
      sum_if_suc n (λ j. leb (first_row T (suc j)) r) (λ j. 1)
      ∙ rw (b, counted i r n o (omega arith)) (omega arith)

  uncounted : (i r n : ℕ) → Of i r → sum_if (i + n) (λ j. leb (first_row T (suc j)) r) (λ j. 1) ≡ i
  uncounted i r zero o = rw (native.Mathlib.Nat.add-zero i) (counted i r i o (omega arith))
  uncounted i r (suc n) o =
      let b : leb (first_row T (suc (i + n))) r ≡ false = lt-leb (first_row T (suc (i + n))) r (omega (arith, first_row_mono (suc i) (suc (i + n)) (omega arith), o.to)) in
      rw (native.Mathlib.Nat.add-suc i n)
      (sum_if_suc (i + n) (λ j. leb (first_row T (suc j)) r) (λ j. 1) ∙ rw (b, uncounted i r n o) (omega arith))

  pub task_is : (i r : ℕ) → i < T.tasks → Of i r → task_of T r ≡ i
  unfolding task_of
  task_is i r l o =
      let e : i + (T.tasks - i) ≡ T.tasks = omega arith in
      ap (λ (n : ℕ). sum_if n (λ j. leb (first_row T (suc j)) r) (λ j. 1)) (sym e) ∙ uncounted i r (T.tasks - i) o

module _ (T : Table) (ok : Checked T) where
  pub task_row : (r : ℕ) → r < rows T → (task_of T r < T.tasks) × Of T (task_of T r) r
  unfolding rows
  task_row r h =
      let w = row_task T T.tasks r h in
      let e : task_of T r ≡ w.0 = task_is T w.0 r w.1 w.2 in
      rw e (w.1, w.2)

  -- Row 0 is task 0's.
  row_zero : (0 < rows T) × (task_of T 0 ≡ 0)
  unfolding rows
  row_zero =
      let s : 1 ≤ at T.steps 0 = (ok.tasks.each 0 ok.tasks_least).steps_least in (
        omega (arith, first_row_none T, first_row_suc T 0, first_row_mono T 1 T.tasks ok.tasks_least),
        task_is T 0 0 ok.tasks_least (record { from = omega (arith, first_row_none T); to = omega (arith, first_row_none T, first_row_suc T 0) }),
      )

  -- The row after one that does not begin a task is of the same task.
  pub same_task : (r : ℕ) → suc r < rows T → (first_row T (task_of T (suc r)) ≡ suc r → ⊥) → task_of T (suc r) ≡ task_of T r
  same_task r h n =
      let w = task_row (suc r) h in
      sym (task_is T (task_of T (suc r)) r w.0 (record { from = omega (arith, w.1.from, n); to = omega (arith, w.1.to) }))

  pub right_of : Right (plan_of T)
  unfolding plan_of cost
  right_of = record {
    period_pos = λ r l. (ok.tasks.each (task_of T r) (task_row r l).0).period_least;
    cost_pos = λ r l. (ok.row r l).time_least;
    first_zero = rw row_zero.1 (eq-eqb _ _ (first_row_none T));
    chained = λ r l e. ap (λ (i : ℕ). at T.period i) (same_task r l (eqb-false _ _ e));
  }

  pub small_of : Small (plan_of T)
  unfolding plan_of cost
  small_of = record {
    some = row_zero.0;
    few = ok.rows_most;
    period_most = λ r l. (ok.tasks.each (task_of T r) (task_row r l).0).period_most;
    cost_most = λ r l. (ok.row r l).time_most;
    processor_least = λ r l. (ok.row r l).processor_least;
    processor_most = λ r l. omega (arith, (ok.row r l).processor_most, ok.processors_most);
  }
