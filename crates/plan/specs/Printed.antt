-- What the plan program prints of a file (document 01, "One plan and its report").
use Rattle.std.specs.Prelude.{ℕ, suc, ◌≤◌, ◌<◌, ◌≡◌, List, ◌++◌, length}
use Rattle.table.specs.declared.refusal.Refusal.{Refusal}
use Rattle.table.specs.declared.refusal.Refusal.TheVariants.{FileTooLong, NoBusyLength}
use Rattle.table.specs.Refusals.{number_of, place_of}
use Rattle.table.specs.Table.{Table}
use Rattle.text.specs.Text.{bytes_of, line}
use Rattle.planfile.specs.Reading.{table, refusal, held, most_bytes}
use Rattle.bounds.specs.Bounds.{Numbers, Analysis, Stuck}
use Rattle.report.specs.Report.{report_text}

-- "Or two lines `refused=` and `at=`": a refusal's number and place.
unfoldable pub refusal_text : Refusal → List ℕ
refusal_text r = line (bytes_of "refused") (number_of r) ++ line (bytes_of "at") (place_of r)

-- The text that is printed: 1, 2, 3 or 4 of a file that is not read, 6 of a plan that has no bounds, else the plan's report.
pub data Printed (file text : List ℕ) : Type 0 where
  too_long : most_bytes < length file → text ≡ refusal_text FileTooLong → Printed file text
  unread :
      {r : Refusal} → length file ≤ most_bytes → held file ≡ refusal r → text ≡ refusal_text r → Printed file text
  no_busy_length :
      {T : Table} {row : ℕ} → held file ≡ table T → Stuck T row → text ≡ refusal_text (NoBusyLength (suc row))
      → Printed file text
  given :
      {T : Table} {N : Numbers} → held file ≡ table T → Analysis T N → text ≡ report_text T N → Printed file text
