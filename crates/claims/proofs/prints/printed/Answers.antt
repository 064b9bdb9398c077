-- `claims::prints::printed` meets its contract.
use Rattle.claims.proofs.Claiming.{claiming}
use Rattle.claims.proofs.prints.printed.Goals as goal

pub returns : goal.returns
returns c = search claiming
