-- Laws of tables whose lists are cut to their tasks and rows.
use Rattle.std.specs.Prelude.{ℕ, ◌≡◌}
use Rattle.std.proofs.Math.Path.{ap}
use native.Mathlib.Omega.{arith}
use Rattle.std.proofs.Math.ListN.{length}
use Rattle.std.proofs.Common.{take_all}
use Rattle.facts.specs.Sums.{sum}
use Rattle.table.specs.Keys.{no_key}
use Rattle.table.specs.Table.{Table, at, first_row, rows}
use Rattle.planfile.specs.Draft.{rows_asked}
use Rattle.planfile.specs.DraftLaws.{Shape, draft_of}
use Rattle.planfile.specs.DraftValues.{ValuesSoFar}
use Rattle.planfile.specs.PlanValues.{ValuesRight}
use Rattle.planfile.specs.Trimmed.{trimmed}

-- The lists are as long as the table: an entry for each task, and for each row.
pub record Full (T : Table) : Type 0 where
  pub period : length T.period ≡ T.tasks
  pub deadline : length T.deadline ≡ T.tasks
  pub steps : length T.steps ≡ T.tasks
  pub processor : length T.processor ≡ rows T
  pub priority : length T.priority ≡ rows T
  pub time : length T.time ≡ rows T

-- Such a table is trimmed.
pub full_trimmed : (T : Table) → Full T → trimmed T ≡ T
unfolding trimmed
full_trimmed T f = λ i. record {
  processors = T.processors;
  tasks = T.tasks;
  period = take_all T.tasks T.period (omega arith) i;
  deadline = take_all T.tasks T.deadline (omega arith) i;
  steps = take_all T.tasks T.steps (omega arith) i;
  processor = take_all (rows T) T.processor (omega arith) i;
  priority = take_all (rows T) T.priority (omega arith) i;
  time = take_all (rows T) T.time (omega arith) i;
}

-- Behind the last line the rows asked for are the table's,
module _ (T : Table) (s : Shape (draft_of no_key T)) where
  pub asked_all : rows_asked T ≡ rows T
  unfolding rows_asked rows first_row
  asked_all = let e : length T.steps ≡ T.tasks = omega arith in ap (λ (n : ℕ). sum n (at T.steps)) e

  -- the lists are as long as they should be,
  pub full_of : Full T
  full_of = omega (arith, asked_all)

  -- and the values make a plan.
  pub values_of : ValuesSoFar (draft_of no_key T) → ValuesRight T
  values_of v = record {
    processors = v.processors (omega arith);
    tasks = v.tasks (omega arith);
    task_lists = omega arith;
    period = λ i l. v.period i (omega arith);
    deadline = λ i l. v.deadline i (omega arith);
    steps = λ i l. v.steps i (omega arith);
    few = omega (arith, asked_all);
    row_lists = omega (arith, asked_all);
    processor = λ i l. v.processor i (omega (arith, asked_all));
    priority = λ i l. v.priority i (omega (arith, asked_all));
    time = λ i l. v.time i (omega (arith, asked_all));
  }
