-- `places::moves::close` meets its contract.
use Rattle.places.proofs.MoveLaws.{close_told}
use Rattle.places.proofs.moves.close.Goals as goal

pub returns : goal.returns
returns g c = close_told _ _ _ _ c.copy_within.ensures.after c.requires.0
