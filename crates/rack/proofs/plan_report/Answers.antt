use Rattle.rack.specs.LayoutsLaws.{reported_answered}
use Rattle.rack.proofs.plan_report.Goals as goal

pub returns : goal.returns
returns c = reported_answered c.into.ensures c.report_file.ensures
