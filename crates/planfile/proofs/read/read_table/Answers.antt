-- `planfile::read::read_table` meets its contract: what the lines hold is laid over the lent lists, or refused.
use Rattle.planfile.specs.ReaderLaws.{found_fronts, read_laid}
use Rattle.planfile.proofs.read.read_table.Goals as goal

pub lay-requires-clause-from : goal.lay-requires-clause-from
lay-requires-clause-from c = found_fronts c.in_ok-counts.ensures.found c.in_ok-counts.ensures.sized

pub returns-clause-outcome : goal.returns-clause-outcome
returns-clause-outcome c = read_laid _ c.in_ok-counts.ensures.found c.lay.ensures.lists
