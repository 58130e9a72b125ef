use Rattle.std.proofs.Common.{◌≡◌, ◌+◌}
use Rattle.facts.specs.Filled.{joined}
use Rattle.table.specs.Table.{at}
use Rattle.report.specs.Pages.{added, written}
use Rattle.table.specs.Plan.{deadline_from}
use Rattle.report.specs.Listed.{slack_at}
use Rattle.report.specs.Report.{task_lines}
use Rattle.report.proofs.sections.append_tasks.Given as goal

-- the text so far
abbrev pub invariant-loop-i : goal.invariant-loop-i
invariant-loop-i g l =
    let T = g.T.TableView.table l.table in
    written l.page ≡ added (joined l.i (λ k. task_lines (k + 1) (at l.found.chains.now k) (deadline_from (at T.period k) (at T.deadline k)) (slack_at l.found.slack.now k))) (written l.initial.page)
