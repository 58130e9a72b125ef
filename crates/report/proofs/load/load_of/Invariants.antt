use Rattle.std.proofs.Common.{◌≡◌, ◌≤◌, ◌*◌}
use Rattle.table.specs.Table.{at}
use Rattle.report.specs.Load.{load_of}
use Rattle.report.proofs.load.load_of.Given as goal

-- the sum so far
abbrev pub invariant-loop-row : goal.invariant-loop-row
invariant-loop-row g l =
    let T = g.T.TableView.table l.table in record {
      sum : l.load ≡ load_of l.row (at T.processor) (at T.time) (at l.periods) l.number;
      most : l.load ≤ l.row * 1000000000;
    }
