-- `planfile::read::read` meets its contract: 7 for rows, 7 for tasks, 1, and then what the lines hold.
use Rattle.std.proofs.Common.{sym, ◌∙◌}
use Rattle.planfile.specs.ReadWriteLaws.{roomy_of}
use Rattle.planfile.proofs.read.read.Goals as goal

pub read_table-requires : goal.read_table-requires
read_table-requires c =
    roomy_of _ (sym c.rows_held.ensures ∙ c.if-not-rows_held.false) (sym c.tasks_held.ensures ∙ c.if-not-tasks_held.false)
