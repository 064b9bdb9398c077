-- `places::met::is_met` meets its contract.
use Rattle.places.proofs.MetLaws.{onemet}
use Rattle.places.proofs.met.is_met.Goals as goal

pub returns-in_default : goal.returns-in_default
returns-in_default c = search onemet

pub returns-then-is_same_key : goal.returns-then-is_same_key
returns-then-is_same_key c = search onemet

pub returns : goal.returns
returns c = search onemet
