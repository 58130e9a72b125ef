-- Reading a plan file into lists of records (document 01, "The plan on paper": rows are held as records, one for each step).
use Rattle.std.specs.Prelude.{ℕ, List, length, Result}
use Rattle.table.specs.declared.refusal.Refusal.{Refusal}
use Rattle.planfile.specs.declared.read.Counts.{Counts}
use Rattle.facts.specs.Filled.{filled}
use Rattle.columns.specs.declared.columns.Chain.{Chain}
use Rattle.columns.specs.declared.columns.Row.{Row}
use Rattle.columns.specs.Columns.{chain_of, row_of}
use Rattle.sheets.specs.declared.sheet.Sheet.{Sheet}
use Rattle.sheets.specs.Sheet.{sheet_of}

-- The answer of reading and the two lists of records as they then are.
pub record RecordsOutcome : Type 0 where
  pub answer : Result Counts Refusal
  pub chains : List Chain
  pub rows : List Row

-- The sheet's records are laid over the front of the lists; the rest stays.
unfoldable pub laid_over : Sheet → List Chain → List Row → RecordsOutcome
laid_over sheet chains rows = record {
  answer = sheet.answer;
  chains = filled (chain_of sheet.columns) sheet.chains chains;
  rows = filled (row_of sheet.columns) sheet.rows rows;
}

-- Reading a file into lists of records: a record for each task and for each row of its table, and none after a refusal.
unfoldable pub records_read : List ℕ → List Chain → List Row → RecordsOutcome
records_read file chains rows = laid_over (sheet_of file (length chains) (length rows)) chains rows
