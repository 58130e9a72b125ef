-- The promise at work: document 01's plan and a lighter one, with runs of both, all by computation.
use Rattle.std.specs.Prelude.{ℕ, ◌≤◌, ◌<◌, ◌≡◌, refl, true, List, [], ◌∷◌, leb, ltb, eqb, Ok}
use Rattle.std.proofs.Common.{arith, ltb-true, leb-true, eqb-true}
use Rattle.facts.specs.Sums.{sum, sum_if}
use Rattle.facts.specs.Tests.{all, lowest}
use Rattle.facts.specs.TestsLaws.{all_at}
use Rattle.facts.specs.Rounding.{ceil}
use Rattle.facts.specs.LeastLaws.{iterate}
use Rattle.facts.specs.Filled.{tab}
use Rattle.table.specs.Ranges.{ranges, range_of, in_range}
use Rattle.table.specs.Table.{Table, at, first_row, rows, entry_right, long_enough, entries_right, is_plan}
use Rattle.table.specs.TableLaws.{checked}
use Rattle.table.specs.Plan.{task_of, cost, plan_of, in_force}
use Rattle.table.specs.PlanLaws.{right_of}
use Rattle.equations.specs.Row.{work, work_to, RowBounds}
use Rattle.equations.specs.RowTest.{found, settled, worst, all_settled, row_test, row_test_sound}
use Rattle.equations.specs.Beside.{level, beside, demand, row_of}
use Rattle.equations.specs.BesideLaws.{proper_of}
use Rattle.bounds.specs.Bounds.{limit, equations, chain_bound, slack_of, accepted, needed, filled_in, Bounding}
use Rattle.bounds.specs.NoHarder.{NoHarder}
use Rattle.guards.specs.Moment.{moment_of, state_with}
use Rattle.guards.specs.Running.{is_open, better, best, running, runs}
use Rattle.guards.specs.Machine.{start, arrived, worked, idle, opened, due, let_go, before_release, ticked}
use Rattle.guards.specs.Fits.{first_fits, later_fits, row_fits, fits}
use Rattle.guards.specs.Calls.{fresh_start, has_task, arrive, is_done, wrong_done, used_up, released_byte, tick}
use Rattle.promise.specs.Promise.{Call, outcome_of, is_taken, after, ticks_by, ticks_taken, last_row, EndsWithin, Promised}
use Rattle.promise.proofs.Theorem.{promise, own_bounds}
use Rattle.promise.specs.Example.{paper_plan, lighter_plan, left_over, full_times, calls_before, calls_afterwards, found_after, left_after, paper_numbers, lent}

-- What a run comes to: an arrival of task 2 is taken between the calls before and afterwards; the ticks then taken, the
-- instances that row 2 had released at the arrival, and those that row 3 has completed in the end.
record RunOfTask2 (T : Table) (before afterwards : List Call) (ticks released completed : ℕ) : Type 0 where
  taken : is_taken (arrive T (found_after T before) 2).answer ≡ true
  ticks_are : ticks_taken T (left_after T before) afterwards ≡ ticks
  released_are : at (left_after T before).released (first_row T 1) ≡ released
  completed_are : at (after T (left_after T before) afterwards).completed (last_row T 1) ≡ completed

computed : RunOfTask2 paper_plan (Call.arrival 1 ∷ []) full_times 5 1 0 × RunOfTask2 lighter_plan calls_before calls_afterwards 6 1 1
unfolding paper_plan lighter_plan left_over full_times calls_before calls_afterwards outcome_of is_taken after ticks_by ticks_taken last_row fresh_start has_task arrive is_done wrong_done used_up released_byte tick first_fits later_fits row_fits fits start arrived worked idle opened due let_go before_release ticked is_open better best running runs moment_of state_with task_of cost plan_of first_row rows entry_right long_enough entries_right is_plan ranges range_of in_range tab all lowest sum sum_if
computed = (
  record { taken = refl; ticks_are = refl; released_are = refl; completed_are = refl },
  record { taken = refl; ticks_are = refl; released_are = refl; completed_are = refl },
)

plans : (is_plan paper_plan ≡ true) × (is_plan lighter_plan ≡ true)
unfolding paper_plan lighter_plan is_plan in_range range_of ranges entries_right entry_right long_enough rows first_row all sum
plans = (refl, refl)

paper_rows : (r : ℕ) → r < 4 → RowBounds (equations paper_plan r) (paper_numbers.busy r) (paper_numbers.instances r) (paper_numbers.bound r)
unfolding paper_plan paper_numbers row_test settled found all_settled worst iterate work work_to row_of demand beside level ceil plan_of task_of cost first_row rows all sum sum_if
paper_rows r l =
    row_test_sound (proper_of (right_of paper_plan (checked paper_plan plans.0)) r l) 9 _ _ _
    (ltb-true _ _ (all_at 4 (λ r. ltb 0 (paper_numbers.instances r)) refl r l))
    (all_at 4 (λ r. row_test (equations paper_plan r) 9 (paper_numbers.busy r) (paper_numbers.instances r) (paper_numbers.bound r)) refl r l)

-- The bounds of document 01's plan are given, and it is accepted.
pub paper_bounds : Bounding paper_plan lent (filled_in paper_plan paper_numbers lent) (Ok 1)
unfolding paper_plan paper_numbers lent needed long_enough accepted slack_of chain_bound in_force filled_in rows first_row all sum tab
paper_bounds = (
  plans.0,
  refl,
  record {
    numbers = paper_numbers;
    analysis = record {
      row = paper_rows;
      within = λ r l. leb-true _ _ (all_at 4 (λ r. leb (paper_numbers.busy r) limit) refl r l);
    };
    lists = refl;
    says = refl;
  },
)

-- The lighter plan is no harder.
lighter : NoHarder paper_plan lighter_plan
unfolding paper_plan lighter_plan in_force cost rows first_row all sum
lighter = record {
  tasks = refl;
  steps = λ i l. eqb-true _ _ (all_at 3 (λ i. eqb (at lighter_plan.steps i) (at paper_plan.steps i)) refl i l);
  processor = λ r l. eqb-true _ _ (all_at 4 (λ r. eqb (at lighter_plan.processor r) (at paper_plan.processor r)) refl r l);
  priority = λ r l. eqb-true _ _ (all_at 4 (λ r. eqb (at lighter_plan.priority r) (at paper_plan.priority r)) refl r l);
  cost = λ r l. leb-true _ _ (all_at 4 (λ r. leb (cost lighter_plan r) (cost paper_plan r)) refl r l);
  period = λ i l. leb-true _ _ (all_at 3 (λ i. leb (at paper_plan.period i) (at lighter_plan.period i)) refl i l);
  deadline = λ i l. leb-true _ _ (all_at 3 (λ i. leb (in_force paper_plan i) (in_force lighter_plan i)) refl i l);
}

-- What is promised of the lighter plan: each instance of task 2 ends within document 01's bound of 6,
promised : Promised paper_plan lighter_plan (filled_in paper_plan paper_numbers lent) 1
promised = promise paper_plan lighter_plan plans.1 lighter lent _ 1 paper_bounds

pub task_2_within_6 : EndsWithin lighter_plan 2 6
unfolding paper_plan paper_numbers lent chain_bound filled_in first_row sum tab
task_2_within_6 = promised.in_time 2

-- and so, in the run above, the instance that arrived at clock 1 has ended at clock 7.
pub ended :
    at (left_after lighter_plan calls_before).released (first_row lighter_plan 1)
    ≤ at (after lighter_plan (left_after lighter_plan calls_before) calls_afterwards).completed (last_row lighter_plan 1)
ended = let run = computed.1 in task_2_within_6 left_over calls_before calls_afterwards run.taken (omega (arith, run.ticks_are))

-- Document 01's plan keeps its own bounds, and task 2's is reached: with one tick less the promise would be false.
pub paper_within_6 : EndsWithin paper_plan 2 6
unfolding paper_plan paper_numbers lent chain_bound filled_in first_row sum tab
paper_within_6 = (own_bounds paper_plan lent _ 1 paper_bounds).in_time 2

pub one_tick_less : EndsWithin paper_plan 2 5 → ⊥
one_tick_less ends =
    let run = computed.0 in
    omega (arith, run.released_are, run.completed_are, ends left_over (Call.arrival 1 ∷ []) full_times run.taken (omega (arith, run.ticks_are)))
