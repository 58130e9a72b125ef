use Rattle.std.proofs.Common.{sym, ◌∙◌, arith}
use Rattle.busy.specs.General.{ceil_one, ceil_rounded}
use Rattle.busy.proofs.clock.periods_in.Goals as goal

pub returns-then-ticks-period : goal.returns-then-ticks-period
returns-then-ticks-period c = sym (ceil_one (omega arith) (omega arith))

pub returns : goal.returns
returns c = c.div_ceil.ensures ∙ ceil_rounded _ _ c.requires.2
