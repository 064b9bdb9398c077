-- `claims::back::hand_in` meets its contract.
use Rattle.claims.proofs.Claiming.{claiming}
use Rattle.claims.proofs.back.hand_in.Goals as goal

pub returns : goal.returns
returns c = search claiming
