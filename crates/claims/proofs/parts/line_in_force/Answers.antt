-- `claims::parts::line_in_force` meets its contract.
use Rattle.claims.proofs.Claiming.{claiming}
use Rattle.claims.proofs.parts.line_in_force.Goals as goal

pub returns : goal.returns
returns c = search claiming
