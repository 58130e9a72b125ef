use Rattle.std.proofs.Common.{◌≤◌, ◌≡◌}
use Rattle.table.specs.Table.{at}
use Rattle.facts.specs.Sums.{sum}
use Rattle.rack.proofs.tables.rows_with_room.Given as goal

abbrev pub invariant-loop-i : goal.invariant-loop-i
invariant-loop-i l = record { summed : l.rows ≡ sum l.i (at l.steps); most : l.rows ≤ 128 }
