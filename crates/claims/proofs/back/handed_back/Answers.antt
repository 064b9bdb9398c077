-- `claims::back::handed_back` meets its contract.
use Rattle.claims.proofs.Claiming.{claiming}
use Rattle.claims.proofs.back.handed_back.Goals as goal

pub returns : goal.returns
returns c = search claiming
