-- `planfile::write::write_plan` meets its contract: the whole file is at the front of the output.
use Rattle.std.proofs.Common.{arith}
use Rattle.planfile.specs.WriterLaws.{text_done}
use Rattle.planfile.proofs.write.write_plan.Goals as goal

pub returns : goal.returns
returns g c =
    let text = c.write_lines-bytes.ensures in
    text_done _ _ _ _ _ _ c.requires text.end text.front (omega arith) c.append.ensures
