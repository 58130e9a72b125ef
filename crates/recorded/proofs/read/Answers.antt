use Rattle.recorded.proofs.RecordsReadLaws.{read_made}
use Rattle.recorded.proofs.read.Goals as goal

pub returns : goal.returns
returns c = read_made _ _ _ c.read-sheet.ensures c.lay.ensures c.lay-2.ensures
