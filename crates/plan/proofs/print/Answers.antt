-- `plan::print` meets its contract: what is reported is printed, and a refusal as its two lines.
use Rattle.std.proofs.Common.{arith}
use Rattle.report.specs.ReportLaws.{front_is}
use Rattle.plan.specs.Printed.{refusal_text}
use Rattle.plan.specs.PrintedLaws.{bytes_printed, refusal_printed, refusal_few, counts}
use Rattle.plan.proofs.print.Goals as goal

pub returns-in-Ok : goal.returns-in-Ok
returns-in-Ok c =
    let a = c.args in
    let told = bytes_printed (omega arith) c.report_file.ensures c.in-Ok.is in
    (counts _ told.0, told.1)

pub returns-in-Err : goal.returns-in-Err
returns-in-Err c =
    let a = c.args in
    let left = c.report_file.new.out in
    let text = refusal_text c.in-Err.refusal in
    let told = refusal_printed (omega arith) c.report_file.ensures c.in-Err.is in
    let there = front_is text left c.print_refusal.ensures (omega (arith, refusal_few c.in-Err.refusal)) in
    (counts _ there.1, rw there.0 told)
