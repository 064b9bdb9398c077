-- `claims::loads::loaded` meets its contract.
use Rattle.claims.proofs.Claiming.{claiming}
use Rattle.claims.proofs.loads.loaded.Goals as goal

pub returns : goal.returns
returns c = search claiming
