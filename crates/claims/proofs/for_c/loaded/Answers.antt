-- `claims::for_c::loaded` meets its contract.
use Rattle.claims.proofs.Claiming.{claiming}
use Rattle.claims.proofs.for_c.loaded.Goals as goal

pub returns : goal.returns
returns c = search claiming
