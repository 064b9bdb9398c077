-- `noted::key::number_noted` meets its contract.
use Rattle.noted.proofs.KeyLaws.{placing}
use Rattle.noted.proofs.key.number_noted.Goals as goal

pub returns-then-place-lt4 : goal.returns-then-place-lt4
returns-then-place-lt4 c = search placing

pub returns : goal.returns
returns c = search placing
