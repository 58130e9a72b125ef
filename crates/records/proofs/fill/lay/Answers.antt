use Rattle.std.proofs.Common.{arith}
use Rattle.facts.specs.FilledLaws.{filled_none, filled_more}
use Rattle.records.proofs.fill.lay.Goals as goal

pub loop-i-init : goal.loop-i-init
loop-i-init g c = filled_none _ _

pub loop-i-preserved : goal.loop-i-preserved
loop-i-preserved g c =
    rw c.loop-i.invariant (filled_more (g.R.Record.of c.args.columns.now) c.loop-i.i c.of.result c.args.list.now (omega (arith, c.min-most.ensures)) c.of.ensures)
