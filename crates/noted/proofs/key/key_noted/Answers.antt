-- `noted::key::key_noted` meets its contract.
use Rattle.noted.proofs.KeyLaws.{keying}
use Rattle.noted.proofs.key.key_noted.Goals as goal

pub number_noted-requires : goal.number_noted-requires
number_noted-requires c = (search keying, search keying, search keying)

pub number_noted-requires-2 : goal.number_noted-requires-2
number_noted-requires-2 c = (search keying, search keying, search keying)

pub number_noted-requires-3 : goal.number_noted-requires-3
number_noted-requires-3 c = (search keying, search keying, search keying)

pub returns : goal.returns
returns c = search keying
