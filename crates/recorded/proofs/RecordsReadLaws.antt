-- Laws of reading into lists of records: its parts together, and that a refusal leaves the lists.
use Rattle.std.specs.Prelude.{ℕ, min, ◌≡◌, List, length, Err}
use Rattle.std.proofs.Common.{arith}
use Rattle.facts.specs.Filled.{tab}
use Rattle.table.specs.declared.refusal.Refusal.{Refusal}
use Rattle.columns.specs.declared.columns.Chain.{Chain}
use Rattle.columns.specs.declared.columns.Row.{Row}
use Rattle.records.specs.Records.{laid_chains, laid_rows}
use Rattle.sheets.specs.declared.sheet.Sheet.{Sheet}
use Rattle.sheets.specs.Sheet.{sheet_of}
use Rattle.sheets.specs.SheetLaws.{Fits, sheet_fits, refused_lays_none}
use Rattle.recorded.specs.RecordsRead.{RecordsOutcome, laid_over, records_read}

-- There is room for all records of the sheet, so all are laid.
fit_laid : (s : Sheet) (chains : List Chain) (rows : List Row) → Fits (length chains) (length rows) s
    → ◌≡◌ {A = RecordsOutcome} (record { answer = s.answer; chains = laid_chains s.columns s.chains chains; rows = laid_rows s.columns s.rows rows }) (laid_over s chains rows)
unfolding laid_over
fit_laid s chains rows f =
    let a : min s.chains (length chains) ≡ s.chains = omega (arith, f.chains_fit) in
    let b : min s.rows (length rows) ≡ s.rows = omega (arith, f.rows_fit) in
    rw (a, b)

pub read_made :
    (file : List ℕ) (chains : List Chain) (rows : List Row) {s : Sheet} {zs : List Chain} {ys : List Row}
    → s ≡ sheet_of file (length chains) (length rows) → zs ≡ laid_chains s.columns s.chains chains → ys ≡ laid_rows s.columns s.rows rows
    → ◌≡◌ {A = RecordsOutcome} (record { answer = s.answer; chains = zs; rows = ys }) (records_read file chains rows)
unfolding records_read
read_made file chains rows e zs ys = rw (ys, zs, e) (fit_laid _ chains rows (sheet_fits file (length chains) (length rows)))

-- A refusal leaves the lists as they were.
pub refusal_leaves :
    (file : List ℕ) (chains : List Chain) (rows : List Row) (r : Refusal) → (records_read file chains rows).answer ≡ Err r
    → records_read file chains rows ≡ record { answer = Err r; chains = chains; rows = rows }
unfolding records_read laid_over tab
refusal_leaves file chains rows r e = rw (refused_lays_none file (length chains) (length rows) r e)
