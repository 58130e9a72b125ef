-- The steps of reading a file: judging the line due, and storing its value.
use Rattle.std.specs.Prelude.{ℕ, ◌+◌, Bool, true, false, cond, not, ◌&&◌, List, ltb, eqb, set, take, Some, None, Ok, Err, Result}
use Rattle.facts.specs.Filled.{laid}
use Rattle.table.specs.Keys.{period_key, deadline_key, steps_key, processor_key, priority_key, time_key}
use Rattle.table.specs.Ranges.{in_range}
use Rattle.table.specs.Table.{table_of, most_rows}
use Rattle.table.specs.declared.refusal.Refusal.{Refusal}
use Rattle.table.specs.declared.refusal.Refusal.TheVariants.{NotTheLineDue, OutOfRange, TooManyRows}
use Rattle.planfile.specs.declared.due.Due.{Due}
use Rattle.lines.specs.Line.{Line}
use Rattle.planfile.specs.declared.read.Counts.{Counts}
use Rattle.planfile.specs.Due.{own_number}
use Rattle.planfile.specs.Reading.{Held, table, refusal, Lists}

-- This value of the key due brings the rows above 128.
unfoldable pub asks_too_many : Due → ℕ → Bool
asks_too_many u v = eqb u.key steps_key && ltb most_rows (u.asked + v)

-- A line that is judged: its value and where the next line starts, or why it is refused.
abbrev pub Judged : Type 0
Judged = Result (ℕ × ℕ) Refusal

-- What the lines hold: a table with these counts and so many rows, or a refusal.
abbrev pub Found : Type 0
Found = Result (Counts × ℕ) Refusal

-- The line due is judged: 2 for its form, 3 for its range, 4 for the rows that it asks for.
unfoldable pub judgement : ℕ → Due → Line → Judged
judgement number u None = Err (NotTheLineDue number)
judgement number u (Some (v, behind)) =
    cond (not (in_range u.key (own_number u) v)) (Err (OutOfRange number))
    (cond (asks_too_many u v) (Err (TooManyRows number)) (Ok (v, behind)))

-- The list with the value at the place, if it is the list of the key.
unfoldable pub stored_if : Bool → ℕ → ℕ → List ℕ → List ℕ
stored_if true place v l = set l place v
stored_if false place v l = l

-- The lists with the value of this key at the task or the row.
unfoldable pub stored : ℕ → ℕ → ℕ → ℕ → Lists → Lists
stored key task row v l = record {
  period = stored_if (eqb key period_key) task v l.period;
  deadline = stored_if (eqb key deadline_key) task v l.deadline;
  steps = stored_if (eqb key steps_key) task v l.steps;
  processor = stored_if (eqb key processor_key) row v l.processor;
  priority = stored_if (eqb key priority_key) row v l.priority;
  time = stored_if (eqb key time_key) row v l.time;
}

-- The first entries of the lists l over the fronts of the lists m.
unfoldable pub laid_front : ℕ → ℕ → Lists → Lists → Lists
laid_front tasks rows l m = record {
  period = laid (take tasks l.period) m.period;
  deadline = laid (take tasks l.deadline) m.deadline;
  steps = laid (take tasks l.steps) m.steps;
  processor = laid (take rows l.processor) m.processor;
  priority = laid (take rows l.priority) m.priority;
  time = laid (take rows l.time) m.time;
}

-- What was found, with its lists at the front of these.
unfoldable pub found_in : Found → Lists → Held
found_in (Err r) l = refusal r
found_in (Ok (counts, rows)) l =
    table (table_of counts.processors counts.tasks (take counts.tasks l.period) (take counts.tasks l.deadline) (take counts.tasks l.steps) (take rows l.processor) (take rows l.priority) (take rows l.time))
