-- The marked examples hold, by computation.
use Prim.Native.Nat.{ℕ, suc, ◌*◌, ◌-◌, ◌≤◌, ◌<◌}
use Prim.Native.String.{String}
use Rattle.std.specs.Prelude.{◌≡◌, true, ◌&&◌, List, [], ◌∷◌, ltb, length}
use Rattle.std.proofs.Math.Path.{refl}
use Rattle.std.proofs.Math.Bool.{Bool}
use Rattle.std.proofs.Common.{arith}
use borrow.Author.Tests.{ltb-true, leb-true, eqb-true, le-ltb}
use Rattle.std.proofs.Math.Dec.{leb, eqb}
use Rattle.facts.specs.Sums.{sum, sum_if}
use Rattle.facts.specs.Tests.{all, lowest}
use Rattle.facts.specs.TestsLaws.{all_at, and_left, and_right}
use Rattle.facts.specs.Rounding.{ceil}
use Rattle.facts.specs.Least.{Least}
use Rattle.facts.specs.LeastLaws.{iterate, iterate_least}
use Rattle.facts.specs.Filled.{tab, joined}
use Rattle.table.specs.Ranges.{ranges, range_of, in_range}
use Rattle.table.specs.Table.{Table, at, first_row, rows, entry_right, long_enough, entries_right, is_plan}
use Rattle.table.specs.TableLaws.{checked}
use Rattle.table.specs.Plan.{task_of, cost, plan_of, in_force}
use Rattle.table.specs.PlanLaws.{right_of}
use Rattle.table.specs.declared.refusal.Refusal.TheVariants.{NoBusyLength, TooSoon, TimeUsedUp}
use Rattle.text.specs.Text.{digits, decimal, line}
use Rattle.lines.specs.Words.{words, word}
use Rattle.planfile.specs.Draft.{blank, rows_asked, own, added, placed, following, advanced}
use Rattle.lines.specs.Line.{is_digit, stands, digits_from, value_from, line_at}
use Rattle.planfile.specs.Reading.{table, too_many, judged, held_from, held, most_bytes}
use Rattle.equations.specs.Row.{Row, work, work_to, RowBounds}
use Rattle.equations.specs.RowLaws.{Proper, work_rising, work_to_rising}
use Rattle.equations.specs.RowTest.{found, settled, worst, all_settled, row_test, row_test_sound, no_busy_test}
use Rattle.equations.specs.Beside.{level, beside, demand, row_of}
use Rattle.equations.specs.BesideLaws.{proper_of}
use Rattle.bounds.specs.Bounds.{limit, equations, Numbers, Analysis, chain_bound, slack_of, accepted, Stuck, no_busy_length}
use Rattle.report.specs.Load.{row_load, load_of, load}
use Rattle.report.specs.Report.{row_lines, slack_line, task_lines, processor_lines, report_of, figures, report_text}
use Rattle.report.specs.Reporting.{delivered, given, read}
use Rattle.guards.specs.Moment.{moment_of, state_with}
use Rattle.guards.specs.Running.{is_open, better, best, running, runs as is_running}
use Rattle.guards.specs.Machine.{start, arrived, worked, idle, opened, due, let_go, before_release, ticked}
use Rattle.guards.specs.Fits.{first_fits, later_fits, row_fits, fits}
use Rattle.guards.specs.Calls.{fresh_start, has_task, arrive, is_done, wrong_done, used_up, released_byte, tick}
use Rattle.marked.specs.Text.{text_of}
use Rattle.marked.specs.Run.{lent_to, outcome_of, steps, after, is_taken, all_taken, clocks, answers, told, told_released, counted_released, counted_completed, row_runs, full_times, is_in, arriving_at, at_full_times}
use Rattle.marked.specs.Marked.{RowNumbers, numbers, reported, unbounded, InstanceBound, expected_of, numbers_of, HasBounds, Every, Holds, paper_file, paper_plan, paper_report, own_chains, p1, p2, p3, p4, p5, p6, p8, p9, p10, p11, p12, examples}

-- A row's D, M and bound are found by n rounds for each equation, and D is within the limit.
unfoldable row_passes : Row → ℕ → RowNumbers → Bool
row_passes q n e = row_test q n e.busy e.instances e.bound && (ltb 0 e.instances && leb e.busy limit)

-- So are the bounds of its instances.
unfoldable instances_pass : Row → ℕ → RowNumbers → Bool
instances_pass q n e =
    eqb (length e.instance_bounds) e.instances
    && all e.instances (λ k. settled (work_to q k) n && eqb (at e.instance_bounds k) (found (work_to q k) n - k * q.period))

-- What passes the test is an instance's bound.
instance_by : {q : Row} → Proper q → (n k B : ℕ) → settled (work_to q k) n && eqb B (found (work_to q k) n - k * q.period) ≡ true → InstanceBound q k B
unfolding settled found
instance_by {q} ok n k B t = record {
  end = found (work_to q k) n;
  ends = iterate_least (work_to_rising ok k) n (eqb-true _ _ (and_left (settled (work_to q k) n) _ t));
  bound = eqb-true _ _ (and_right (settled (work_to q k) n) _ t);
}

module _ (T : Table) (plan : is_plan T ≡ true) (n : ℕ) where
  proper : (r : ℕ) → r < rows T → Proper (equations T r)
  unfolding plan_of
  proper r l = proper_of (right_of T (checked T plan)) r l

  module _ (expected : List RowNumbers) where
    -- What passes the tests are the plan's numbers, and those of its instances.
    analysis_by : all (rows T) (λ r. row_passes (equations T r) n (expected_of expected r)) ≡ true → Analysis T (numbers_of expected)
    unfolding numbers_of row_passes
    analysis_by t = record { row = λ r l. (each r l).0; within = λ r l. (each r l).1 }
      where
        each :
            (r : ℕ) → r < rows T
            → let e = expected_of expected r in RowBounds (equations T r) e.busy e.instances e.bound × (e.busy ≤ limit)
        each r l =
            let e = expected_of expected r in
            let test = row_test (equations T r) n e.busy e.instances e.bound in
            let passes = all_at (rows T) (λ r. row_passes (equations T r) n (expected_of expected r)) t r l in
            let rest = and_right test _ passes in
            (row_test_sound (proper r l) n _ _ _ (ltb-true _ _ (and_left (ltb 0 e.instances) _ rest)) (and_left test _ passes), leb-true _ _ (and_right (ltb 0 e.instances) _ rest))

    bounded_by :
        all (rows T) (λ r. row_passes (equations T r) n (expected_of expected r)) ≡ true
        → all (rows T) (λ r. instances_pass (equations T r) n (expected_of expected r)) ≡ true → HasBounds T expected
    unfolding instances_pass
    bounded_by t u = record {
      outcome = λ lent room. (plan, room, record { numbers = numbers_of expected; analysis = analysis_by t; lists = refl; says = refl });
      counted = λ r l. eqb-true _ _ (and_left (counts r) _ (passes r l));
      each = λ r l k h.
          instance_by (proper r l) n k _
          (all_at (expected_of expected r).instances (λ k. settled (work_to (equations T r) k) n && eqb (at (expected_of expected r).instance_bounds k) (found (work_to (equations T r) k) n - k * (equations T r).period)) (and_right (counts r) _ (passes r l)) k h);
    }
      where
        counts : ℕ → Bool
        counts r = eqb (length (expected_of expected r).instance_bounds) (expected_of expected r).instances

        passes : (r : ℕ) → r < rows T → instances_pass (equations T r) n (expected_of expected r) ≡ true
        passes r l = all_at (rows T) (λ r. instances_pass (equations T r) n (expected_of expected r)) u r l

  -- Row r's rounds pass the limit, and those of the rows before it settle within it.
  unbounded_by :
      (r : ℕ) → r < rows T → limit < found (work (equations T r)) n
      → all r (λ k. settled (work (equations T k)) n && leb (found (work (equations T k)) n) limit) ≡ true
      → Holds (unbounded T 6 (suc r))
  unfolding settled found
  unbounded_by r l past t lent room = record {
    refusal = NoBusyLength (suc r);
    has_number = refl;
    has_place = refl;
    holds = (no_busy_length refl plan room stuck, refl);
  }
    where
      before : (k : ℕ) → k < r → (D : ℕ) × Least (work (equations T k)) D × (D ≤ limit)
      before k h =
          let settles = settled (work (equations T k)) n in
          let each = all_at r (λ k. settled (work (equations T k)) n && leb (found (work (equations T k)) n) limit) t k h in
          (found (work (equations T k)) n, iterate_least (work_rising (proper k (omega arith))) n (eqb-true _ _ (and_left settles _ each)), leb-true _ _ (and_right settles _ each))

      stuck : Stuck T r
      stuck = record { row = l; none = no_busy_test (proper r l) n limit past; before = before }

-- A file that holds a plan with these numbers is reported so.
reported_by :
    (file report : List String) (T : Table) (N : Numbers) → length (text_of file) ≤ most_bytes → held (text_of file) ≡ table T
    → is_plan T ≡ true → Analysis T N → report_text T N ≡ text_of report → Holds (reported file T report)
unfolding delivered
reported_by file report T N short holds plan analysis text =
    (holds, λ out room. read short holds (given plan analysis (rw (text, le-ltb _ _ room))))

report_holds : Holds p1
unfolding p1 paper_file paper_plan paper_report text_of words word blank rows_asked own added placed following advanced is_digit stands digits_from value_from line_at too_many judged held_from held numbers_of expected_of row_passes row_test all_settled worst work work_to row_of demand beside level ceil settled found iterate is_plan in_range range_of ranges entries_right entry_right long_enough rows first_row plan_of task_of cost all sum sum_if chain_bound slack_of accepted in_force row_load load_of load digits decimal line row_lines slack_line task_lines processor_lines report_of figures report_text joined
report_holds =
    let rows = numbers 2 1 [] 2 ∷ numbers 4 1 [] 4 ∷ numbers 2 1 [] 2 ∷ numbers 5 1 [] 5 ∷ [] in
    reported_by paper_file paper_report paper_plan (numbers_of rows) (leb-true _ _ refl) refl refl (analysis_by paper_plan refl 9 rows refl) refl

bounds_hold : Holds p2 × Holds p4 × Holds p5 × Holds p6
unfolding p2 p4 p5 p6 own_chains numbers_of expected_of row_passes instances_pass row_test all_settled worst work work_to row_of demand beside level ceil settled found iterate is_plan in_range range_of ranges entries_right entry_right long_enough rows first_row plan_of task_of cost all sum sum_if
bounds_hold = (
  bounded_by _ refl 9 _ refl refl,
  bounded_by _ refl 30 _ refl refl,
  bounded_by _ refl 9 _ refl refl,
  bounded_by _ refl 9 _ refl refl,
)

no_bounds_hold : Holds p3 × Holds p8
unfolding p3 p8 own_chains work work_to row_of demand beside level ceil settled found iterate is_plan in_range range_of ranges entries_right entry_right long_enough rows first_row plan_of task_of cost all sum sum_if
no_bounds_hold = (
  unbounded_by _ refl 90 0 (ltb-true _ _ refl) (ltb-true _ _ refl) refl,
  unbounded_by _ refl 30 1 (ltb-true _ _ refl) (ltb-true _ _ refl) refl,
)

runs_hold : Holds p9 × Holds p10 × Holds p11 × Holds p12
unfolding p9 p10 p11 p12 paper_plan lent_to outcome_of steps after is_taken all_taken clocks answers told told_released counted_released counted_completed row_runs full_times is_in arriving_at at_full_times joined fresh_start has_task arrive is_done wrong_done used_up released_byte tick first_fits later_fits row_fits fits start arrived worked idle opened due let_go before_release ticked is_open better best running is_running moment_of state_with is_plan in_range range_of ranges entries_right entry_right long_enough rows first_row plan_of task_of cost all sum sum_if tab lowest
runs_hold = (
  λ any. (refl, refl, refl),
  λ any. (refl, refl, refl),
  λ any. (refl, record { refusal = TooSoon 4; has_number = refl; has_place = refl; holds = refl }),
  λ any. (refl, record { refusal = TimeUsedUp 1; has_number = refl; has_place = refl; holds = refl }),
)

-- Every marked example holds.
pub marked : Every Holds examples
unfolding examples
marked =
    let h1 = report_holds in
    let (h2, h4, h5, h6) = bounds_hold in
    let (h3, h8) = no_bounds_hold in
    let (h9, h10, h11, h12) = runs_hold in
    (h1, (h2, (h3, (h4, (h5, (h6, (h8, (h9, (h10, (h11, (h12, tt)))))))))))
