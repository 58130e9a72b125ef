-- `table::deadline::in_force` meets its contract: the test chooses.
use Rattle.std.proofs.Common.{eq-eqb, ne_eqb}
use Rattle.table.proofs.deadline.in_force.Goals as goal

pub returns-then-deadline-eq0 : goal.returns-then-deadline-eq0
returns-then-deadline-eq0 c = simp (eq-eqb _ _ c.if-deadline-eq0.true)

pub returns-else-deadline-eq0 : goal.returns-else-deadline-eq0
returns-else-deadline-eq0 c = simp (ne_eqb _ _ c.if-deadline-eq0.false)
