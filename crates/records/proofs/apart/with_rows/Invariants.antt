use Rattle.std.proofs.Common.{◌≡◌}
use Rattle.records.specs.Records.{first_rows}
use Rattle.records.proofs.apart.with_rows.Given as goal

abbrev pub invariant-loop-i : goal.invariant-loop-i
invariant-loop-i l = l.next ≡ first_rows l.fn.columns l.rows l.i
