-- Reporting a table or a file (document 01, "Numbers that say no": report 5, 6, 7).
use Rattle.std.specs.Prelude.{ℕ, suc, ◌≤◌, ◌<◌, ◌≡◌, true, false, cond, List, ltb, length, Err, Ok, Result}
use Rattle.facts.specs.Filled.{laid}
use Rattle.table.specs.declared.refusal.Refusal.{Refusal}
use Rattle.table.specs.declared.refusal.Refusal.TheVariants.{FileTooLong, NotAPlan, NoBusyLength, TooShort}
use Rattle.table.specs.Table.{Table, is_plan}
use Rattle.planfile.specs.Reading.{table, refusal, held, most_bytes}
use Rattle.bounds.specs.Bounds.{Numbers, Analysis, Stuck}
use Rattle.report.specs.Report.{report_text}

-- The answer of reporting and the output as it then is.
pub record ReportOutcome : Type 0 where
  pub answer : Result ℕ Refusal
  pub out : List ℕ

-- A refusal leaves the output.
abbrev pub refused : Refusal → List ℕ → ReportOutcome
refused r out = record { answer = Err r; out = out }

-- A text for an output: too short an output gives 7 with the bytes needed, and else the text stands at its front, and the
-- answer is the number of bytes.
unfoldable pub delivered : List ℕ → List ℕ → ReportOutcome
delivered text out =
    cond (ltb (length out) (length text)) (refused (TooShort (length text)) out)
    (record { answer = Ok (length text); out = laid text out })

-- The whole outcome w of reporting table T to the output: 5 where it is no plan, 6 with the lowest row that has no busy
-- length, else 7 or the report of its bounds.
pub data Reported (T : Table) (out : List ℕ) (w : ReportOutcome) : Type 0 where
  no_plan : is_plan T ≡ false → w ≡ refused NotAPlan out → Reported T out w
  no_busy_length :
      {row : ℕ} → is_plan T ≡ true → Stuck T row → w ≡ refused (NoBusyLength (suc row)) out → Reported T out w
  given : {N : Numbers} → is_plan T ≡ true → Analysis T N → w ≡ delivered (report_text T N) out → Reported T out w

-- The whole outcome of reporting a file: the reader's refusals 1, 2, 3, 4, else the report's of the table that it holds.
pub data FileReported (file out : List ℕ) (w : ReportOutcome) : Type 0 where
  too_long : most_bytes < length file → w ≡ refused FileTooLong out → FileReported file out w
  unread :
      {r : Refusal} → length file ≤ most_bytes → held file ≡ refusal r → w ≡ refused r out → FileReported file out w
  read : {T : Table} → length file ≤ most_bytes → held file ≡ table T → Reported T out w → FileReported file out w
