-- `claims::parts::given_field` meets its contract.
use Rattle.claims.proofs.Claiming.{claiming}
use Rattle.claims.proofs.parts.given_field.Goals as goal

pub returns : goal.returns
returns c = search claiming
