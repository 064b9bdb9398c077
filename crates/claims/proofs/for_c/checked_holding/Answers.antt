-- `claims::for_c::checked_holding` meets its contract.
use Rattle.claims.proofs.Claiming.{claiming}
use Rattle.claims.proofs.for_c.checked_holding.Goals as goal

pub returns : goal.returns
returns c = search claiming
