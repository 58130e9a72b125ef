use Rattle.std.proofs.Common.{true, ◌≡◌, pred}
use Rattle.table.specs.Table.{at}
use Rattle.guards.specs.InRows.{rows_of}
use Rattle.fitting.proofs.RowTests.{rows_fitting}
use Rattle.fitting.proofs.fits.each_fits.Given as goal

-- the rows so far fit
abbrev pub invariant-loop-row : goal.invariant-loop-row
invariant-loop-row g l = let σ = g.S.StateView.state l.state in record {
  fits : rows_fitting l.row (rows_of l.rows) (g.T.TableView.table l.table).time σ ≡ true;
  before : l.before ≡ at σ.completed (pred l.row);
}
