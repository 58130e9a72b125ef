use Rattle.std.proofs.Common.{◌≡◌, ◌+◌}
use Rattle.facts.specs.Filled.{joined}
use Rattle.table.specs.Table.{at}
use Rattle.report.specs.Pages.{added, written}
use Rattle.report.specs.Load.{load_of}
use Rattle.report.specs.Report.{processor_lines}
use Rattle.report.proofs.sections.append_processors.Given as goal

-- the text so far
abbrev pub invariant-loop-i : goal.invariant-loop-i
invariant-loop-i g l =
    let T = g.T.TableView.table l.table in
    written l.page ≡ added (joined l.i (λ k. processor_lines (k + 1) (load_of l.found.rows (at T.processor) (at T.time) (at l.found.periods.now) (k + 1)))) (written l.initial.page)
