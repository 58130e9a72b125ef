-- Tables that agree on their tasks and rows have the same report: what a list holds past them is no part of the table.
use Rattle.std.specs.Prelude.{ℕ, suc, ◌+◌, ◌≤◌, ◌<◌, ◌≡◌, refl, Bool, true, List, pos}
use Rattle.std.proofs.Common.{◌∙◌, arith}
use Rattle.std.proofs.Math.Path.{ap, fun_ext}
use Rattle.std.proofs.Math.Bool.{cond}
use Rattle.std.proofs.Math.Dec.{leb, eqb}
use Rattle.std.specs.Int.Signed.{le_z}
use Rattle.facts.specs.Tests.{all}
use Rattle.facts.specs.SumsLaws.{sum_ext, sum_if_ext}
use Rattle.facts.specs.TestsLaws.{clash, all_ext}
use Rattle.table.specs.Table.{Table, at, first_row, rows, is_plan}
use Rattle.table.specs.TableLaws.{Checked, checked}
use Rattle.table.specs.Plan.{plan_of, task_of, cost, in_force}
use Rattle.table.specs.PlanLaws.{task_row}
use Rattle.equations.specs.Beside.{level, beside, demand, row_of}
use Rattle.bounds.specs.Bounds.{Numbers, Analysis, Stuck, chain_bound, accepted, slack_of}
use Rattle.report.specs.Load.{load_of, load}
use Rattle.report.specs.Report.{figures, report_text}
use Rattle.report.specs.ReportLaws.{report_alike}
use Rattle.report.specs.Reporting.{ReportOutcome, delivered, Reported, no_plan, no_busy_length, given}

-- The same counts, and the same entries for each task and each row.
pub record Agree (S T : Table) : Type 0 where
  pub processors : S.processors ≡ T.processors
  pub tasks : S.tasks ≡ T.tasks
  pub period : (i : ℕ) → i < T.tasks → at S.period i ≡ at T.period i
  pub deadline : (i : ℕ) → i < T.tasks → at S.deadline i ≡ at T.deadline i
  pub steps : (i : ℕ) → i < T.tasks → at S.steps i ≡ at T.steps i
  pub processor : (r : ℕ) → r < rows T → at S.processor r ≡ at T.processor r
  pub priority : (r : ℕ) → r < rows T → at S.priority r ≡ at T.priority r
  pub time : (r : ℕ) → r < rows T → at S.time r ≡ at T.time r

module _ {S T : Table} (ok : Checked T) (a : Agree S T) where
  first_row_agree : (i : ℕ) → i ≤ T.tasks → first_row S i ≡ first_row T i
  unfolding first_row
  first_row_agree i l = sum_ext i (λ j h. a.steps j (omega arith))

  pub rows_agree : rows S ≡ rows T
  unfolding rows
  rows_agree = ap (λ (n : ℕ). first_row S n) a.tasks ∙ first_row_agree T.tasks (omega arith)

  task_agree : (r : ℕ) → task_of S r ≡ task_of T r
  unfolding task_of
  task_agree r =
      sum_if_ext a.tasks (λ i l. ap (λ (n : ℕ). leb n r) (first_row_agree (suc i) (omega (arith, a.tasks))))
      (λ i l. refl)

  pub period_agree : (r : ℕ) → r < rows T → (plan_of S).period r ≡ (plan_of T).period r
  unfolding plan_of
  period_agree r l = ap (λ (i : ℕ). at S.period i) (task_agree r) ∙ a.period (task_of T r) (task_row T ok r l).0

  cost_agree : (r : ℕ) → r < rows T → (plan_of S).cost r ≡ (plan_of T).cost r
  unfolding plan_of cost
  cost_agree r l = a.time r l

  beside_agree : (r : ℕ) → r < rows T → (k : ℕ) → k < rows T → beside (plan_of S) r k ≡ beside (plan_of T) r k
  unfolding beside level plan_of
  beside_agree r l k h = rw (a.processor k h, a.processor r l, a.priority k h, a.priority r l)

  demand_agree : (r : ℕ) → r < rows T → (t : ℕ) → demand (plan_of S) r t ≡ demand (plan_of T) r t
  unfolding demand plan_of
  demand_agree r l t =
      sum_if_ext rows_agree (λ k h. beside_agree r l k (omega (arith, rows_agree)))
      (λ k h. (let h' : k < rows T = omega (arith, rows_agree) in rw (period_agree k h', cost_agree k h')))

  -- The rows have the same equations.
  pub row_agree : (r : ℕ) → r < rows T → row_of (plan_of S) r ≡ row_of (plan_of T) r
  unfolding row_of
  row_agree r l =
      let others : demand (plan_of S) r ≡ demand (plan_of T) r = fun_ext (demand_agree r l) in
      rw (period_agree r l, cost_agree r l, others)

  -- So they have the same numbers,
  pub analysis_agree : {N : Numbers} → Analysis S N → Analysis T N
  analysis_agree {N} n = record {
    row = λ r l. (let h : r < rows S = omega (arith, rows_agree) in rw (← row_agree r l) (n.row r h));
    within = λ r l. n.within r (omega (arith, rows_agree));
  }

  -- the same lowest row without a busy length,
  pub stuck_agree : {r : ℕ} → Stuck S r → Stuck T r
  stuck_agree {r} s =
      let l : r < rows T = omega (arith, rows_agree, s.row) in
      record {
        row = l;
        none = rw (← row_agree r l) s.none;
        before = λ k h. rw (← row_agree k (omega arith)) (s.before k h);
      }

  in_force_agree : (i : ℕ) → i < T.tasks → in_force S i ≡ in_force T i
  unfolding in_force
  in_force_agree i l = rw (a.deadline i l, a.period i l)

  chain_agree : (N : Numbers) (i : ℕ) → i < T.tasks → chain_bound S N i ≡ chain_bound T N i
  unfolding chain_bound
  chain_agree N i l =
      rw (a.steps i l)
      (sum_ext (at T.steps i) (λ s h. ap (λ (n : ℕ). N.bound (n + s)) (first_row_agree i (omega arith))))

  slack_agree : (N : Numbers) (i : ℕ) → i < T.tasks → slack_of S N i ≡ slack_of T N i
  unfolding slack_of
  slack_agree N i l = rw (in_force_agree i l, chain_agree N i l)

  accepted_agree : (N : Numbers) → accepted S N ≡ accepted T N
  unfolding accepted
  accepted_agree N =
      ap (λ (n : ℕ). all n (λ i. le_z (pos 0) (slack_of S N i))) a.tasks
      ∙ all_ext T.tasks (λ i l. rw (slack_agree N i l))

  load_agree : (q : ℕ) → load (plan_of S) q ≡ load (plan_of T) q
  unfolding load load_of plan_of
  load_agree q =
      sum_if_ext rows_agree (λ r h. ap (λ (p : ℕ). eqb p q) (a.processor r (omega (arith, rows_agree))))
      (λ r h. (let l : r < rows T = omega (arith, rows_agree) in rw (period_agree r l, cost_agree r l)))

  -- and the same report.
  pub report_agree : (N : Numbers) → report_text S N ≡ report_text T N
  unfolding report_text figures
  report_agree N =
      report_alike (record {
        rows = rows_agree;
        tasks = a.tasks;
        processors = a.processors;
        busy = λ r l. refl;
        instances = λ r l. refl;
        bound = λ r l. refl;
        chain = λ i l. chain_agree N i (omega (arith, a.tasks));
        deadline = λ i l. in_force_agree i (omega (arith, a.tasks));
        slack = λ i l. slack_agree N i (omega (arith, a.tasks));
        load = load_agree;
        accepted = ap (λ (b : Bool). cond b 1 0) (accepted_agree N);
      })

-- Two plans that agree have the same outcome.
pub reported_agree :
    {S T : Table} {out : List ℕ} {w : ReportOutcome} → is_plan S ≡ true → is_plan T ≡ true → Agree S T
    → Reported S out w → Reported T out w
reported_agree p q a (no_plan n e) = absurd (clash p n)
reported_agree p q a (no_busy_length p' s e) = no_busy_length q (stuck_agree (checked _ q) a s) e
reported_agree {S} {T} {out} p q a (given {N} p' n e) =
    given q (analysis_agree (checked T q) a n)
    (e ∙ ap (λ (t : List ℕ). delivered t out) (report_agree (checked T q) a N))
