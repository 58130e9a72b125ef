-- `planned::rows::view_rows` meets its contract: each row's period and whether it is first, task by task.
use Rattle.std.proofs.Common.{length, ◌+◌, ◌≡◌}
use Rattle.facts.specs.Filled.{filled}
use Rattle.planned.specs.ViewLaws.{Standing}
use Rattle.table.specs.Plan.{plan_of}
use Rattle.table.specs.TableLaws.{Checked}
use Rattle.table.specs.Table.{at, rows}
use Rattle.planned.proofs.rows.view_rows.Given as goal

abbrev pub invariant-loop-row : goal.invariant-loop-row
invariant-loop-row g l =
    let T = g.T.TableView.table l.table in record {
      counted : l.count ≡ rows T;
      checked : Checked T;
      standing : Standing T l.task l.start l.row;
      period : l.periods ≡ filled (plan_of T).period l.row l.initial.periods;
      first : l.firsts ≡ filled (plan_of T).first l.row l.initial.firsts;
      period_long : length l.periods ≡ length l.initial.periods;
      first_long : length l.firsts ≡ length l.initial.firsts;
      end_is : l.end ≡ l.start + at T.steps l.task;
    }
