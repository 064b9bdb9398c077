-- `claims::parts::found_line` meets its contract.
use Rattle.claims.proofs.Claiming.{claiming}
use Rattle.claims.proofs.parts.found_line.Goals as goal

pub returns : goal.returns
returns c = search claiming
