use Rattle.std.proofs.Common.{◌≡◌, ◌+◌}
use Rattle.facts.specs.Filled.{joined}
use Rattle.table.specs.Table.{at}
use Rattle.report.specs.Pages.{added, written}
use Rattle.report.specs.Report.{row_lines}
use Rattle.report.proofs.sections.append_rows.Given as goal

-- the text so far
abbrev pub invariant-loop-i : goal.invariant-loop-i
invariant-loop-i l =
    written l.page ≡ added (joined l.i (λ k. row_lines (k + 1) (at l.found.busy.now k) (at l.found.instances.now k) (at l.found.bounds.now k))) (written l.initial.page)
