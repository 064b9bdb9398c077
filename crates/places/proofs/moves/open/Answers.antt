-- `places::moves::open` meets its contract.
use Rattle.places.proofs.MoveLaws.{open_told}
use Rattle.places.proofs.moves.open.Goals as goal

pub returns : goal.returns
returns g c = open_told _ _ _ _ _ c.copy_within.ensures.after c.requires.0 c.requires.1
