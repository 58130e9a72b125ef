-- `report::report_plan` meets its contract: what the bounds leave is what the report prints.
use Rattle.std.proofs.Common.{◌≡◌, arith, Err}
use Rattle.report.specs.BoundedLaws.{bound_refuses, bound_filled, bound_few, bound_gives}
use Rattle.report.proofs.report_plan.Goals as goal

pub deliver_report-requires : goal.deliver_report-requires
deliver_report-requires g c =
    let T = g.T.TableView.table c.args.table.now in
    let left = c.bound.ensures.outcome in
    let e = c.in_ok-accepted.was in
    rw (c.of-found.ensures T)
    (record {
      filled = bound_filled T c.requires _ _ (omega arith) left e;
      few = omega (arith, bound_few T c.requires _ _ (omega arith) left e);
    })

pub returns : goal.returns
returns g c =
    let T = g.T.TableView.table c.args.table.now in
    bound_gives T c.requires _ _ (omega arith) c.bound.ensures.outcome c.in_ok-accepted.was c.args.out.now
    (rw (c.of-found.ensures T) at c.deliver_report.ensures)

pub returns-in_err-accepted : goal.returns-in_err-accepted
returns-in_err-accepted g c =
    let T = g.T.TableView.table c.args.table.now in
    let passed : c.from_residual.result ≡ Err c.in_err-accepted.field-0.0 = grind arith in
    rw passed (bound_refuses T c.requires _ _ (omega arith) c.bound.ensures.outcome c.args.out.now c.in_err-accepted.was)
