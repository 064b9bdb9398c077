-- `claims::for_c::found_line` meets its contract.
use Rattle.claims.proofs.Claiming.{claiming}
use Rattle.claims.proofs.for_c.found_line.Goals as goal

pub returns : goal.returns
returns c = search claiming
