-- Reading a plan file for lists of records (document 01, "The plan on paper" and "Numbers that say no").
use Rattle.std.specs.Prelude.{ℕ, cond, List, ltb, Err, Ok, Result}
use Rattle.table.specs.Table.{rows}
use Rattle.table.specs.declared.refusal.Refusal.{Refusal}
use Rattle.table.specs.declared.refusal.Refusal.TheVariants.{TooShort}
use Rattle.planfile.specs.declared.read.Counts.{Counts}
use Rattle.planfile.specs.Reading.{Lists, lists_of, ReadOutcome, read}
use Rattle.planfile.specs.Answered as planfile
use Rattle.columns.specs.declared.columns.Columns.{Columns}
use Rattle.columns.specs.Columns.{blank_of}
use Rattle.sheets.specs.declared.sheet.Sheet.{Sheet}

-- The lists of the columns.
abbrev pub lists_in : Columns → Lists
lists_in c = lists_of c.period c.deadline c.steps c.processor c.priority c.time

-- The columns of these counts and lists.
abbrev pub columns_in : Counts → Lists → Columns
columns_in counts l = record {
  processors = counts.processors;
  tasks = counts.tasks;
  period = l.period;
  deadline = l.deadline;
  steps = l.steps;
  processor = l.processor;
  priority = l.priority;
  time = l.time;
}

-- A refusal lays no record.
abbrev pub unread_sheet : Refusal → Sheet
unread_sheet refusal = record { answer = Err refusal; columns = blank_of 0 0; chains = 0; rows = 0 }

-- A file that was read lays a record for each task and for each row of its table.
unfoldable pub sheet_from : Result Counts Refusal → Lists → Sheet
sheet_from (Ok counts) l = record {
  answer = Ok counts;
  columns = columns_in counts l;
  chains = counts.tasks;
  rows = rows (planfile.table_in counts l);
}
sheet_from (Err refusal) l = unread_sheet refusal

-- Reading a file into blank lists, which have room for any table.
abbrev pub read_blank : List ℕ → ReadOutcome
read_blank file = read file (lists_in (blank_of 0 0))

-- The sheet of a file.
unfoldable pub file_sheet : List ℕ → Sheet
file_sheet file = sheet_from (read_blank file).answer (read_blank file).lists

-- Reading a file for so many chain records and so many row records: 7 with 128 for fewer than 128 row records, 7 with 32 for
-- fewer than 32 chain records, then the reader's refusals.
unfoldable pub sheet_of : List ℕ → ℕ → ℕ → Sheet
sheet_of file chains rows =
    cond (ltb rows 128) (unread_sheet (TooShort 128))
    (cond (ltb chains 32) (unread_sheet (TooShort 32))
    (file_sheet file))
