-- `planfile::write::write_lines` meets its contract: at each line, the text so far and the lines that are left are the whole file.
use Rattle.std.proofs.Common.{◌-◌}
use Rattle.planfile.specs.File.{lines_of}
use Rattle.planfile.specs.WriterLaws.{lines_due, Wrote}
use Rattle.planfile.proofs.write.write_lines.Given as goal

abbrev pub invariant-loop-due : goal.invariant-loop-due
invariant-loop-due g l = Wrote (g.T.TableView.table l.table) l.due (record { list = l.text; end = l.end })

abbrev pub decreases-loop-due : goal.decreases-loop-due
decreases-loop-due g l = lines_of (g.T.TableView.table l.table) - lines_due l.due
