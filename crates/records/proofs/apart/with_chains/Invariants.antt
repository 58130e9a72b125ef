use Rattle.std.proofs.Common.{◌≡◌}
use Rattle.records.specs.Records.{first_chains}
use Rattle.records.proofs.apart.with_chains.Given as goal

abbrev pub invariant-loop-i : goal.invariant-loop-i
invariant-loop-i l = l.next ≡ first_chains l.fn.columns l.chains l.i
