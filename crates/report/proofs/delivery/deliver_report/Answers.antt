-- `report::delivery::deliver_report` meets its contract: what is delivered is the text that was written apart.
use Rattle.std.proofs.Common.{◌∙◌, ap, List, ℕ, arith}
use Rattle.text.specs.TextLaws.{placed}
use Rattle.report.specs.Pages.{added}
use Rattle.report.specs.ReportLaws.{front_is}
use Rattle.report.specs.Reporting.{delivered}
use Rattle.report.proofs.delivery.deliver_report.Goals as goal

pub shared_ref_as_front-deliver : goal.shared_ref_as_front-deliver
unfolding added
shared_ref_as_front-deliver g c = omega (arith, (placed _ _ _ c.append_report.ensures (omega (arith, c.requires.few))).end, c.requires.few)

pub returns : goal.returns
unfolding added
returns g c =
    c.deliver.ensures
    ∙ ap (λ (t : List ℕ). delivered t c.args.out.now) (front_is _ _ c.append_report.ensures c.requires.few).0
