-- `report::report` meets its contract: a table that is a plan shows its rows, and any other is refused.
use Rattle.std.proofs.Common.{◌≡◌, arith, Err}
use Rattle.report.specs.ViewedLaws.{view_shows, view_refuses}
use Rattle.report.proofs.report.Goals as goal

pub report_plan-requires : goal.report_plan-requires
report_plan-requires g c = view_shows _ _ _ c.view_rows.ensures (omega arith) (omega arith) c.in_ok-rows.was

pub returns-in_err-rows : goal.returns-in_err-rows
returns-in_err-rows g c =
    let passed : c.from_residual.result ≡ Err c.in_err-rows.field-0.0 = grind arith in
    rw passed (view_refuses _ _ _ c.view_rows.ensures (omega arith) (omega arith) c.args.out.now c.in_err-rows.was)
