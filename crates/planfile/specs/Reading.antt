-- Reading a file: its table, or the first line that is wrong (document 01, "The plan on paper" and "Numbers that say no").
use Rattle.std.specs.Prelude.{ℕ, zero, suc, ◌+◌, Bool, cond, not, ◌&&◌, List, ltb, eqb, length, Err, Ok, Result, Some, None}
use Rattle.facts.specs.Filled.{laid}
use Rattle.table.specs.Keys.{steps_key, no_key}
use Rattle.table.specs.Ranges.{in_range}
use Rattle.table.specs.Table.{Table, most_rows, long_enough}
use Rattle.table.specs.declared.refusal.Refusal.{Refusal}
use Rattle.table.specs.declared.refusal.Refusal.TheVariants.{FileTooLong, NotTheLineDue, OutOfRange, TooManyRows, TooShort}
use Rattle.planfile.specs.declared.read.Counts.{Counts}
use Rattle.planfile.specs.Draft.{Draft, blank, rows_asked, own, advanced}
use Rattle.lines.specs.Line.{Line, line_at}

-- What a file holds: a table, or a refusal.
pub data Held : Type 0 where
  table : Table → Held
  refusal : Refusal → Held

-- This `steps` value brings the rows above 128.
unfoldable pub too_many : Draft → ℕ → Bool
too_many d v = eqb d.key steps_key && ltb most_rows (rows_asked d.table + v)

-- A line is judged: 2 for its form, 3 for its range, 4 for the rows it asks for; else reading goes on behind it.
unfoldable pub judged : ℕ → Draft → Line → (ℕ → Draft → Held) → Held
judged number d None onward = refusal (NotTheLineDue number)
judged number d (Some (v, behind)) onward =
    cond (not (in_range d.key (own d) v)) (refusal (OutOfRange number))
    (cond (too_many d v) (refusal (TooManyRows number))
    (onward behind (advanced d v)))

-- The lines from a place on, of which the first has this number: at most `most` lines are looked at. Behind the last line
-- the file must end.
unfoldable pub held_from : ℕ → List ℕ → ℕ → ℕ → Draft → Held
held_from zero file place number d = refusal (NotTheLineDue number)
held_from (suc most) file place number d =
    cond (eqb d.key no_key)
    (cond (eqb place (length file)) (table d.table) (refusal (NotTheLineDue number)))
    (judged number d (line_at file place d.key) (λ behind e. held_from most file behind (number + 1) e))

-- What a whole file holds. No file has more lines than bytes.
unfoldable pub held : List ℕ → Held
held file = held_from (length file + 1) file 0 1 blank

-- "At most .. 8,192 bytes."
abbrev pub most_bytes : ℕ
most_bytes = 8192

-- The six lent lists of a table.
pub record Lists : Type 0 where
  pub period : List ℕ
  pub deadline : List ℕ
  pub steps : List ℕ
  pub processor : List ℕ
  pub priority : List ℕ
  pub time : List ℕ

-- These six lists together.
abbrev pub lists_of : List ℕ → List ℕ → List ℕ → List ℕ → List ℕ → List ℕ → Lists
lists_of period deadline steps processor priority time = record {
  period = period;
  deadline = deadline;
  steps = steps;
  processor = processor;
  priority = priority;
  time = time;
}

-- The answer of reading and the lists as they then are.
pub record ReadOutcome : Type 0 where
  pub answer : Result Counts Refusal
  pub lists : Lists

-- The table's entries over the front of the lists; the rest stays.
unfoldable pub laid_over : Table → Lists → Lists
laid_over T l = record {
  period = laid T.period l.period;
  deadline = laid T.deadline l.deadline;
  steps = laid T.steps l.steps;
  processor = laid T.processor l.processor;
  priority = laid T.priority l.priority;
  time = laid T.time l.time;
}

-- A file's table is answered by its counts and fills the lists; a refusal leaves them.
unfoldable pub read_of : Held → Lists → ReadOutcome
read_of (table T) l = record { answer = Ok (record { processors = T.processors; tasks = T.tasks }); lists = laid_over T l }
read_of (refusal r) l = record { answer = Err r; lists = l }

-- Reading: 7 (room for 128 rows, then for 32 tasks), 1, then line by line 2, 3, 4.
unfoldable pub read : List ℕ → Lists → ReadOutcome
read file l =
    cond (not (long_enough 128 l.processor l.priority l.time)) (record { answer = Err (TooShort 128); lists = l })
    (cond (not (long_enough 32 l.period l.deadline l.steps)) (record { answer = Err (TooShort 32); lists = l })
    (cond (ltb most_bytes (length file)) (record { answer = Err FileTooLong; lists = l })
    (read_of (held file) l)))
