use Rattle.std.proofs.Common.{rules}
use Rattle.bounds.specs.BoundingLaws.{numbering_named}
use Rattle.bounds.proofs.lists.BoundLists.fill_rows.Goals as goal

pub returns-clause-outcome : goal.returns-clause-outcome
returns-clause-outcome g c = numbering_named _ _ _ (search rules) (search rules) (search rules) c.row_bounds.ensures.outcome
