-- The promise at work on byte lists: document 01's plan, from its file to a run on a state list.
use Rattle.std.specs.Prelude.{ℕ, ◌≡◌, refl, true, List, [], ◌∷◌, length, replicate}
use Rattle.std.proofs.Common.{sym, subst, arith}
use Rattle.std.proofs.lemmas.List.{length-replicate}
use Rattle.facts.specs.Sums.{sum, sum_if}
use Rattle.facts.specs.Tests.{all, lowest}
use Rattle.facts.specs.Filled.{tab}
use Rattle.table.specs.Ranges.{ranges, range_of, in_range}
use Rattle.table.specs.Table.{Table, at, first_row, rows, entry_right, long_enough, entries_right, is_plan}
use Rattle.table.specs.Plan.{task_of, cost, plan_of}
use Rattle.planfile.specs.File.{file_of}
use Rattle.planfile.specs.Reading.{Held, held, laid_over}
use Rattle.planfile.specs.Answered as planfile
use Rattle.planfile.specs.RoundTrip.{reads_back}
use Rattle.planfile.specs.Trimmed.{trimmed}
use Rattle.bounds.specs.Bounds.{chain_bound, filled_in}
use Rattle.guards.specs.declared.state.State.{State}
use Rattle.guards.specs.Moment.{moment_of, state_with}
use Rattle.guards.specs.Running.{is_open, better, best, running, runs}
use Rattle.guards.specs.Machine.{start, arrived, worked, idle, opened, due, let_go, before_release, ticked}
use Rattle.guards.specs.Fits.{first_fits, later_fits, row_fits, fits}
use Rattle.guards.specs.Calls.{fresh_start, has_task, arrive, is_done, wrong_done, used_up, released_byte, tick}
use Rattle.promise.specs.Promise.{Call, outcome_of, is_taken, after, ticks_by, ticks_taken, last_row}
use Rattle.promise.proofs.Theorem.{no_harder_self}
use Rattle.promise.specs.Example.{paper_plan, paper_numbers, lent, full_times}
use Rattle.promise.proofs.Example.{paper_bounds}
use Rattle.rack.specs.Layouts.{table_bytes, state_bytes, rows_in, state_in}
use Rattle.rack.specs.RackCalls.{room_for}
use Rattle.boundary.specs.OnBytes.{RackEndsWithin}
use Rattle.boundary.specs.FromFile.{list_read, PlanHeld}
use Rattle.boundary.proofs.Theorem.{bytes_end}
use Rattle.boundary.proofs.FilePromise.{file_held, table_laid, file_promise}

-- Document 01's file holds document 01's plan.
paper_file_held : held (file_of paper_plan) ≡ Held.table paper_plan
unfolding paper_plan trimmed is_plan in_range range_of ranges entries_right entry_right long_enough rows first_row all sum
paper_file_held = reads_back paper_plan refl

-- Read into any list of the layout's length, with a fresh start on any state list and any calls, every instance of task 2
-- ends within document 01's bound of 6.
pub paper_within_6 : (list : List ℕ) → length list ≡ table_bytes → RackEndsWithin (list_read (file_of paper_plan) list) 2 6
unfolding paper_plan paper_numbers lent chain_bound filled_in first_row sum tab
paper_within_6 list size = file_promise (file_of paper_plan) list size paper_plan paper_file_held paper_plan (no_harder_self paper_plan) lent _ 1 paper_bounds 2

-- The table that the list then holds: document 01's plan with zeros past its tasks and rows.
abbrev S : Table
S = planfile.table_in (record { processors = paper_plan.processors; tasks = paper_plan.tasks }) (laid_over paper_plan room_for)

-- Tasks 1 and 2 arrive together after a fresh start, and five ticks are taken at full times: task 2's first row had released
-- one instance, and its last row has completed none.
record RunOfTask2 (T : Table) (any : State) : Type 0 where
  taken : is_taken (arrive T (after T (fresh_start T any).state (Call.arrival 1 ∷ [])) 2).answer ≡ true
  ticks_are : ticks_taken T (arrive T (after T (fresh_start T any).state (Call.arrival 1 ∷ [])) 2).state full_times ≡ 5
  released_are : at (arrive T (after T (fresh_start T any).state (Call.arrival 1 ∷ [])) 2).state.released (first_row T 1) ≡ 1
  completed_are : at (after T (arrive T (after T (fresh_start T any).state (Call.arrival 1 ∷ [])) 2).state full_times).completed (last_row T 1) ≡ 0

computed : (any : State) → RunOfTask2 S any
unfolding paper_plan full_times laid_over outcome_of is_taken after ticks_by ticks_taken last_row fresh_start has_task arrive is_done wrong_done used_up released_byte tick first_fits later_fits row_fits fits start arrived worked idle opened due let_go before_release ticked is_open better best running runs moment_of state_with task_of cost plan_of first_row rows entry_right long_enough entries_right is_plan ranges range_of in_range tab all lowest sum sum_if
computed any = record { taken = refl; ticks_are = refl; released_are = refl; completed_are = refl }

-- So the bound of 6 is reached on byte lists too: with one tick less the promise would be false.
pub one_tick_less : (list : List ℕ) → length list ≡ table_bytes → RackEndsWithin (list_read (file_of paper_plan) list) 2 5 → ⊥
one_tick_less list size ends =
    let run = subst (λ (T : Table). RunOfTask2 T (state_in (rows_in table) any)) (sym (table_laid (file_of paper_plan) list size paper_plan paper_file_held)) (computed (state_in (rows_in table) any)) in
    omega (
      arith,
      run.released_are,
      run.completed_are,
      bytes_end table ok.size ok.plan 2 5 ends any (length-replicate {A = ℕ} state_bytes 0) (Call.arrival 1 ∷ []) full_times run.taken (omega (arith, run.ticks_are)),
    )
  where
    table : List ℕ
    table = list_read (file_of paper_plan) list

    any : List ℕ
    any = replicate state_bytes 0

    ok : PlanHeld (file_of paper_plan) list
    ok = file_held (file_of paper_plan) list size paper_plan paper_file_held
