-- The report's text (document 01, "One plan and its report").
use Rattle.std.specs.Prelude.{ℕ, ◌+◌, cond, List, ◌++◌, ℤ, pos, nat_abs}
use Rattle.std.specs.Int.Signed.{lt_z}
use Rattle.facts.specs.Filled.{joined}
use Rattle.table.specs.Table.{Table, rows}
use Rattle.table.specs.Plan.{plan_of, in_force}
use Rattle.text.specs.Text.{bytes_of, line, minus_line}
use Rattle.bounds.specs.Bounds.{Numbers, chain_bound, slack_of, accepted}
use Rattle.report.specs.Load.{load}

-- For each row its number, D, M and bound.
unfoldable pub row_lines : ℕ → ℕ → ℕ → ℕ → List ℕ
row_lines row busy instances bound =
    line (bytes_of "row") row ++ line (bytes_of "busy") busy ++ line (bytes_of "instances") instances ++ line (bytes_of "bound") bound

-- The slack, with "a minus sign if below zero".
unfoldable pub slack_line : ℤ → List ℕ
slack_line slack = cond (lt_z slack (pos 0)) (minus_line (bytes_of "slack") (nat_abs slack)) (line (bytes_of "slack") (nat_abs slack))

-- For each task its number, bound, deadline in force and slack.
unfoldable pub task_lines : ℕ → ℕ → ℕ → ℤ → List ℕ
task_lines task bound deadline slack =
    line (bytes_of "task") task ++ line (bytes_of "bound") bound ++ line (bytes_of "deadline") deadline ++ slack_line slack

-- For each processor its number and load.
unfoldable pub processor_lines : ℕ → ℕ → List ℕ
processor_lines processor carried = line (bytes_of "processor") processor ++ line (bytes_of "load") carried

-- What a report prints: D, M and bound of each row, and bound, deadline in force and slack of each task, both counted from
-- 0; the load of each processor, by its number; and 1 if the plan is accepted, else 0.
pub record Figures : Type 0 where
  pub rows : ℕ
  pub tasks : ℕ
  pub processors : ℕ
  pub busy : ℕ → ℕ
  pub instances : ℕ → ℕ
  pub bound : ℕ → ℕ
  pub chain : ℕ → ℕ
  pub deadline : ℕ → ℕ
  pub slack : ℕ → ℤ
  pub load : ℕ → ℕ
  pub accepted : ℕ

-- The report of these figures: `report=1`, rows, tasks, processors, `accepted`.
unfoldable pub report_of : Figures → List ℕ
report_of F =
    line (bytes_of "report") 1
    ++ joined F.rows (λ r. row_lines (r + 1) (F.busy r) (F.instances r) (F.bound r))
    ++ joined F.tasks (λ i. task_lines (i + 1) (F.chain i) (F.deadline i) (F.slack i))
    ++ joined F.processors (λ q. processor_lines (q + 1) (F.load (q + 1)))
    ++ line (bytes_of "accepted") F.accepted

-- The figures of a plan with the numbers of its rows.
unfoldable pub figures : Table → Numbers → Figures
figures T N = record {
  rows = rows T;
  tasks = T.tasks;
  processors = T.processors;
  busy = N.busy;
  instances = N.instances;
  bound = N.bound;
  chain = chain_bound T N;
  deadline = in_force T;
  slack = slack_of T N;
  load = load (plan_of T);
  accepted = cond (accepted T N) 1 0;
}

-- The whole report of a plan.
unfoldable pub report_text : Table → Numbers → List ℕ
report_text T N = report_of (figures T N)
