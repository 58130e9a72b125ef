-- From a plan's file to the runs on byte lists: the table list that holds the file's plan, and the report that is kept.
use Rattle.std.specs.Prelude.{ℕ, pred, ◌≤◌, ◌≡◌, true, List, length, Ok}
use Rattle.facts.specs.Filled.{laid}
use Rattle.table.specs.Table.{Table, rows, is_plan}
use Rattle.table.specs.Plan.{in_force}
use Rattle.planfile.specs.declared.read.Counts.{Counts}
use Rattle.planfile.specs.Reading.{Held, held, read}
use Rattle.planfile.specs.Writing.{write}
use Rattle.planfile.specs.Answered as planfile
use Rattle.bounds.specs.Bounds.{Numbers, Analysis, chain_bound, accepted}
use Rattle.report.specs.Report.{report_text}
use Rattle.rack.specs.Layouts.{table_bytes, table_in}
use Rattle.rack.specs.RackCalls.{room_for, rack_table}
use Rattle.boundary.specs.OnBytes.{RackEndsWithin}

-- The table list as reading the file leaves it.
abbrev pub list_read : List ℕ → List ℕ → List ℕ
list_read file list = (rack_table file list).table

-- The list holds the plan of the file.
pub record PlanHeld (file list : List ℕ) : Type 0 where
  -- The file was read, and the list holds the table that reading it into lists of zeros gives.
  pub counts : Counts
  pub reads : (read file room_for).answer ≡ Ok counts
  pub holds : table_in (list_read file list) ≡ planfile.table_in counts (read file room_for).lists
  -- The list is of the layout's length, so every call tries it; its table is a plan, and the answer is its number of rows.
  pub size : length (list_read file list) ≡ table_bytes
  pub plan : is_plan (table_in (list_read file list)) ≡ true
  pub answered : (rack_table file list).answer.value ≡ rows (table_in (list_read file list))
  -- Written again, it is the file, byte for byte.
  pub written :
      (out : List ℕ) → length file ≤ length out
      → write (table_in (list_read file list)) out ≡ record { answer = Ok (length file); out = laid file out }

-- The output, which was out before, holds the report of the file's plan; and runs with the table list that the file is read
-- into keep it.
pub record ReportKept (file out after list : List ℕ) : Type 0 where
  pub plan : Table
  pub numbers : Numbers
  pub holds : held file ≡ Held.table plan
  pub analysis : Analysis plan numbers
  pub reported : after ≡ laid (report_text plan numbers) out
  -- Every instance of a task ends within the bound that the report gives for its chain,
  pub in_time : (task : ℕ) → RackEndsWithin (list_read file list) task (chain_bound plan numbers (pred task))
  -- and, where the plan is accepted, within its deadline in force.
  pub by_deadline : accepted plan numbers ≡ true → (task : ℕ) → RackEndsWithin (list_read file list) task (in_force plan (pred task))
