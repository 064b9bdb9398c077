-- `places::counts::clear` meets its contract.
use Rattle.places.proofs.NoteLaws.{clear_told}
use Rattle.places.proofs.counts.clear.Goals as goal

pub returns : goal.returns
returns c = clear_told _ _ _ _ (c.fill.ensures.after (λ y e. e)) c.requires
