-- `noted::key::number_read` meets its contract.
use Rattle.noted.proofs.KeyLaws.{reading}
use Rattle.noted.proofs.key.number_read.Goals as goal

pub returns-then-f-eq34 : goal.returns-then-f-eq34
returns-then-f-eq34 c = search reading

pub returns : goal.returns
returns c = search reading
