use Rattle.std.proofs.Common.{◌≡◌}
use Rattle.facts.specs.Filled.{filled}
use Rattle.records.proofs.fill.lay.Given as goal

abbrev pub invariant-loop-i : goal.invariant-loop-i
invariant-loop-i g l = l.list ≡ filled (g.R.Record.of l.columns) l.i l.initial.list
