-- `find::line_of` meets its contract.
use Rattle.find.proofs.FindLaws.{found}
use Rattle.find.proofs.line_of.Goals as goal

pub returns : goal.returns
returns c = search found
