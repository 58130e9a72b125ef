use Rattle.busy.specs.ClimbLaws.{zeros_of}
use Rattle.busy.proofs.numbers.Numbers.none.Goals as goal

pub returns : goal.returns
returns c = zeros_of
