-- The whole outcome of each call of the rack's host: the answer and every list as it then is (docs/LAYOUTS.md).
use Rattle.std.specs.Prelude.{ℕ, Bool, cond, ◌&&◌, ◌≡◌, List, [], ltb, eqb, length, replicate, Err, Ok, Result}
use Rattle.table.specs.Table.{Table, rows, is_plan}
use Rattle.table.specs.Refusals.{number_of, place_of}
use Rattle.table.specs.declared.refusal.Refusal.{Refusal}
use Rattle.table.specs.declared.refusal.Refusal.TheVariants.{NotAPlan, StateDoesNotFit, TooShort}
use Rattle.planfile.specs.declared.read.Counts.{Counts}
use Rattle.planfile.specs.Reading.{Lists, read}
use Rattle.planfile.specs.Answered as planfile
use Rattle.report.specs.Reporting.{FileReported}
use Rattle.guards.specs.Outcome.{Outcome}
use Rattle.guards.specs.declared.state.State.{State}
use Rattle.guards.specs.Calls.{fresh_start, arrive, tick, TickOutcome}
use Rattle.rack.specs.declared.answer.RackAnswer.{RackAnswer}
use Rattle.rack.specs.declared.call.Call.{Call}
use Rattle.rack.specs.declared.call.Call.TheVariants.{Fresh, Arrive, Tick}
use Rattle.rack.specs.Layouts.{table_bytes, state_bytes, table_in, with_table, rows_in, state_in, with_state}

-- A refusal as the host sees it: its number, and its place.
unfoldable pub refused_as : Refusal → RackAnswer
refused_as refusal = record { number = number_of refusal; value = place_of refusal }

-- An answer as the host sees it: number 0 and the value, or the refusal.
unfoldable pub answered_as : Result ℕ Refusal → RackAnswer
answered_as (Ok value) = record { number = 0; value = value }
answered_as (Err refusal) = refused_as refusal

-- A call's answer and the state list as it then is.
pub record StateOutcome : Type 0 where
  pub answer : RackAnswer
  pub state : List ℕ

-- A call that was taken writes its state into the list, one that was refused leaves it.
unfoldable pub list_after : Result ℕ Refusal → List ℕ → List ℕ → List ℕ
list_after (Ok value) written before = written
list_after (Err refusal) written before = before

-- The outcome of a call on the state that the list holds for a plan of n rows.
unfoldable pub kept_in : ℕ → List ℕ → Outcome → StateOutcome
kept_in n state o = record {
  answer = answered_as o.answer;
  state = list_after o.answer (with_state n o.state state) state;
}

-- A table list of the layout's length that holds a plan.
unfoldable pub holds_plan : List ℕ → Bool
holds_plan table = eqb (length table) table_bytes && is_plan (table_in table)

-- The two lists are of their layouts' lengths, and the table list holds a plan: the call is tried.
unfoldable pub tried : List ℕ → List ℕ → Bool
tried table state = holds_plan table && eqb (length state) state_bytes

-- A call that isn't tried is refused: a table list of another length or without a plan gives 5, a state list of another
-- length 14.
unfoldable pub guarded : List ℕ → List ℕ → StateOutcome → StateOutcome
guarded table state outcome =
    cond (tried table state) outcome
    (record { answer = refused_as (cond (holds_plan table) StateDoesNotFit NotAPlan); state = state })

-- What the host asks, with the release list: fresh start and arrive leave it.
unfoldable pub called : Call → Table → State → List ℕ → List ℕ → TickOutcome
called Fresh T σ done released = record { outcome = fresh_start T σ; released = released }
called (Arrive task) T σ done released = record { outcome = arrive T σ task; released = released }
called Tick T σ done released = tick T σ done released

-- A call's answer and state list with the release list.
pub record RackTickOutcome : Type 0 where
  pub outcome : StateOutcome
  pub released : List ℕ

-- The call on the table and the state that the lists hold.
unfoldable pub called_in : Call → List ℕ → List ℕ → List ℕ → List ℕ → TickOutcome
called_in call table state done released = called call (table_in table) (state_in (rows_in table) state) done released

-- A call on byte lists.
unfoldable pub rack_call : Call → List ℕ → List ℕ → List ℕ → List ℕ → RackTickOutcome
rack_call call table state done released = record {
  outcome = guarded table state (kept_in (rows_in table) state (called_in call table state done released).outcome);
  released = cond (tried table state) (called_in call table state done released).released released;
}

-- Fresh start on byte lists.
unfoldable pub rack_fresh : List ℕ → List ℕ → StateOutcome
rack_fresh table state = (rack_call Fresh table state [] []).outcome

-- Arrive on byte lists.
unfoldable pub rack_arrive : List ℕ → List ℕ → ℕ → StateOutcome
rack_arrive table state task = (rack_call (Arrive task) table state [] []).outcome

-- Tick on byte lists.
unfoldable pub rack_tick : List ℕ → List ℕ → List ℕ → List ℕ → RackTickOutcome
rack_tick = rack_call Tick

-- The answer of reading a file into a table list, and the list as it then is.
pub record TableOutcome : Type 0 where
  pub answer : RackAnswer
  pub table : List ℕ

-- A file that was read stands in the list as its table, and the answer is the number of its rows; a refusal leaves the list.
unfoldable pub table_from : Result Counts Refusal → Lists → List ℕ → TableOutcome
table_from (Ok counts) lists list = record {
  answer = record { number = 0; value = rows (planfile.table_in counts lists) };
  table = with_table (planfile.table_in counts lists) list;
}
table_from (Err refusal) lists list = record { answer = refused_as refusal; table = list }

-- Lists of zeros with room for 32 tasks and 128 rows.
abbrev pub room_for : Lists
room_for = record {
  period = replicate 32 0;
  deadline = replicate 32 0;
  steps = replicate 32 0;
  processor = replicate 128 0;
  priority = replicate 128 0;
  time = replicate 128 0;
}

-- A file into a table list: a list shorter than the layout gives 7 with the layout's length, before the reader's refusals.
unfoldable pub rack_table : List ℕ → List ℕ → TableOutcome
rack_table file list =
    cond (ltb (length list) table_bytes) (record { answer = refused_as (TooShort table_bytes); table = list })
    (table_from (read file room_for).answer (read file room_for).lists list)

-- An answer of reporting as the host sees it: number 0 and the report's bytes, or the refusal.
unfoldable pub reported_as : Result ℕ Refusal → RackAnswer
reported_as (Ok count) = record { number = 0; value = count }
reported_as (Err refusal) = refused_as refusal

-- A plan file's report into an output: the whole outcome of reporting the file, with its answer as the host sees it.
pub record PlanReported (file before : List ℕ) (answer : RackAnswer) (after : List ℕ) : Type 0 where
  pub reporting : Result ℕ Refusal
  pub answered : answer ≡ reported_as reporting
  pub reported : FileReported file before (record { answer = reporting; out = after })
