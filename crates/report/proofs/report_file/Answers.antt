-- `report::report_file` meets its contract: what the reader leaves is reported as the table that the file holds.
use Rattle.std.proofs.Common.{◌≡◌, arith, Err}
use Rattle.report.specs.FileReportLaws.{read_gives, read_refuses}
use Rattle.report.proofs.report_file.Goals as goal

pub returns : goal.returns
returns c =
    let a = c.args in
    read_gives a.file.now a.out.now _ c.read.ensures.outcome (omega arith) c.in_ok-counts.was (rw c.table.ensures at c.report.ensures)

pub returns-in_err-counts : goal.returns-in_err-counts
returns-in_err-counts c =
    let a = c.args in
    let passed : c.from_residual.result ≡ Err c.in_err-counts.field-0.0 = grind arith in
    rw passed (read_refuses a.file.now a.out.now _ c.read.ensures.outcome (omega arith) c.in_err-counts.was)
