-- Laws of a plan's figures.
use Rattle.std.specs.Prelude.{ℕ, ◌+◌, ◌≤◌, ◌<◌, ◌≡◌, refl, Bool, true, false, cond, eqb, pos, ◌-ℤ◌, nat_abs}
use Rattle.std.proofs.Common.{ap, mul-le-mul_left}
use native.Mathlib.Omega.{arith}
use Rattle.std.proofs.Math.Decide.{dec_le}
use Rattle.facts.specs.SumsLaws.{sum_bound}
use Rattle.facts.specs.LeastLaws.{Answer, least_unique}
use Rattle.facts.specs.Rounding.{ceil}
use Rattle.facts.specs.RoundingLaws.{ceil_le}
use Rattle.table.specs.Table.{Table, at, first_row, rows}
use Rattle.table.specs.TableLaws.{Checked}
use Rattle.table.specs.Plan.{plan_of, in_force}
use Rattle.table.specs.PlanLaws.{right_of, small_of}
use Rattle.equations.specs.Row.{Row, work_to, RowBounds}
use Rattle.equations.specs.RowLaws.{Proper, instance_answer}
use Rattle.equations.specs.BesideLaws.{proper_of}
use Rattle.bounds.specs.Bounds.{limit, Numbers, Analysis, chain_bound, slack_of, accepted}
use Rattle.bounds.specs.BoundsLaws.{Same, chain_same, slack_same, accepted_same, step_row, analysis_one}
use Rattle.bounds.specs.SlackLaws.{less_pos, less_neg}
use Rattle.report.specs.Load.{load}
use Rattle.report.specs.LoadLaws.{load_most}
use Rattle.report.specs.Report.{figures, report_text}
use Rattle.report.specs.ReportLaws.{Small, report_alike}

-- A row's instances and bound are at most its busy length.
row_most : {q : Row} {D M R : ℕ} → Proper q → RowBounds q D M R → (M ≤ D) × (R ≤ D)
row_most {q} {D} {M} {R} p b =
    let g = b.bound in
    let a : Answer (work_to q g.instance) D =
    instance_answer p g.instance b.busy (omega (arith, g.within, b.instances)) in
    let e : g.end ≡ a.value = least_unique g.ends a.least in
    let few : ceil D q.period ≤ D = ceil_le p.period_pos (omega (arith, mul-le-mul_left D p.period_pos)) in
    (omega (arith, b.instances), omega (arith, g.reached, a.fits))

in_force_most : (T : Table) → Checked T → (i : ℕ) → i < T.tasks → in_force T i ≤ 160000000
unfolding in_force
in_force_most T ok i l = go (eqb (at T.deadline i) 0)
  where
    go : (b : Bool) → cond b (at T.period i) (at T.deadline i) ≤ 160000000
    go true = omega (arith, (ok.tasks.each i l).period_most)
    go false = (ok.tasks.each i l).deadline_most

-- Two numbers differ by no more than the greater.
less_most : (a b m : ℕ) → a ≤ m → b ≤ m → nat_abs (pos a -ℤ pos b) ≤ m
less_most a b m h l = go (dec_le b a)
  where
    go : Dec (b ≤ a) → nat_abs (pos a -ℤ pos b) ≤ m
    go (yes p) = rw (less_pos a b p) (omega arith)
    go (no p) = rw (less_neg a b (omega arith)) (omega arith)

one_most : (b : Bool) → cond b 1 0 ≤ 1
one_most true = omega arith
one_most false = omega arith

module _ (T : Table) (ok : Checked T) {N : Numbers} (a : Analysis T N) where
  row_small : (r : ℕ) → r < rows T → (N.instances r ≤ limit) × (N.bound r ≤ limit)
  unfolding plan_of
  row_small r l =
      let most = row_most (proper_of (right_of T ok) r l) (a.row r l) in
      (omega (arith, a.within r l), omega (arith, a.within r l))

  chain_small : (i : ℕ) → i < T.tasks → chain_bound T N i ≤ 160000000
  unfolding chain_bound
  chain_small i l =
      omega (
        arith,
        sum_bound (at T.steps i) (λ s. N.bound (first_row T i + s)) limit
            (λ s h. (row_small (first_row T i + s) (step_row T i s l h)).1),
        (ok.tasks.each i l).steps_most,
      )

  slack_small : (i : ℕ) → i < T.tasks → nat_abs (slack_of T N i) ≤ 160000000
  unfolding slack_of
  slack_small i l = less_most (in_force T i) (chain_bound T N i) 160000000 (in_force_most T ok i l) (chain_small i l)

  load_small : (q : ℕ) → load (plan_of T) q ≤ 128000000000
  unfolding load plan_of
  load_small q =
      let P = plan_of T in
      omega (arith, load_most P.processor P.cost P.period q (rows T) (small_of T ok).cost_most, ok.rows_most)

  -- A plan's figures are small,
  pub figures_small : Small (figures T N)
  unfolding figures
  figures_small = record {
    rows = ok.rows_most;
    tasks = ok.tasks_most;
    processors = ok.processors_most;
    busy = a.within;
    instances = λ r l. (row_small r l).0;
    bound = λ r l. (row_small r l).1;
    chain = chain_small;
    deadline = in_force_most T ok;
    slack = slack_small;
    load = load_small;
    accepted = one_most (accepted T N);
  }

-- and there is one report of a plan.
pub report_one : {T : Table} {N N' : Numbers} → Analysis T N → Analysis T N' → report_text T N ≡ report_text T N'
unfolding report_text figures
report_one {T} {N} {N'} a b =
    let e : Same T N N' = analysis_one a b in
    report_alike (record {
      rows = refl;
      tasks = refl;
      processors = refl;
      busy = e.busy;
      instances = e.instances;
      bound = e.bound;
      chain = chain_same e;
      deadline = λ i l. refl;
      slack = slack_same e;
      load = λ q. refl;
      accepted = ap (λ (x : Bool). cond x 1 0) (accepted_same e);
    })
