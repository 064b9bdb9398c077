-- `claims::for_c::checked_file` meets its contract.
use Rattle.claims.proofs.Claiming.{claiming}
use Rattle.claims.proofs.for_c.checked_file.Goals as goal

pub returns : goal.returns
returns c = search claiming
