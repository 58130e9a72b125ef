-- `planfile::read::read_lines` meets its contract: at each line, the lines from it on say what the whole file holds.
use Rattle.std.proofs.Common.{◌≡◌, ◌-◌, length}
use Rattle.planfile.specs.Lent.{lists_in, places}
use Rattle.planfile.specs.ReaderLaws.{Reached}
use Rattle.planfile.proofs.read.read_lines.Given as goal

abbrev pub invariant-loop-stand : goal.invariant-loop-stand
invariant-loop-stand l = record {
  same : places l.lists ≡ places l.initial.lists;
  reached : Reached l.file l.stand.due l.stand.place l.stand.number (lists_in l.lists);
}

abbrev pub decreases-loop-stand : goal.decreases-loop-stand
decreases-loop-stand l = length l.file - l.stand.place
