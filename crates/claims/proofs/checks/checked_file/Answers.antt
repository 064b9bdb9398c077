-- `claims::checks::checked_file` meets its contract.
use Rattle.claims.proofs.Claiming.{claiming}
use Rattle.claims.proofs.checks.checked_file.Goals as goal

pub returns : goal.returns
returns c = search claiming
