use Rattle.std.proofs.Common.{◌≡◌, ◌≤◌, ◌*◌}
use Rattle.table.specs.Table.{first_row}
use Rattle.table.proofs.view.TableView.first_row.Given as goal

-- the sum so far
abbrev pub invariant-loop-i : goal.invariant-loop-i
invariant-loop-i g l = record { sum : l.row ≡ first_row (g.Self.TableView.table l.self) l.i; most : l.row ≤ 16 * l.i }
