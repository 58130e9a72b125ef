-- `planfile::read::read_lines` meets its contract: at each line, the lines from it on say what the whole file holds.
use Rattle.std.proofs.Common.{refl}
use Rattle.planfile.specs.ReaderLaws.{reached_start, reached_same, reached_more, found_refused, found_table}
use Rattle.planfile.proofs.read.read_lines.Goals as goal

pub loop-stand-init : goal.loop-stand-init
loop-stand-init c = record { same = refl; reached = reached_same c.first.ensures refl (reached_start _ _ c.requires) }

pub returns-then-stand-file-clause-found : goal.returns-then-stand-file-clause-found
returns-then-stand-file-clause-found c =
    let s = c.loop-stand.invariant.reached in
    found_refused _ (reached_more s c.loop-stand-test.false c.if-stand-file.true)

pub returns-clause-found : goal.returns-clause-found
returns-clause-found c = found_table c.loop-stand.invariant.reached c.loop-stand-test.false c.if-stand-file.false

pub returns-clause-sized : goal.returns-clause-sized
returns-clause-sized c = c.loop-stand.invariant.reached.sized
