-- `places::search::place_tagged` meets its contract.
use Rattle.places.proofs.SearchLaws.{tagplacing}
use Rattle.places.proofs.search.place_tagged.Goals as goal

pub loop-low-init : goal.loop-low-init
loop-low-init c = search tagplacing

pub bounds-tags-mid : goal.bounds-tags-mid
bounds-tags-mid c = search tagplacing

pub loop-low-preserved-then-tags-mid : goal.loop-low-preserved-then-tags-mid
loop-low-preserved-then-tags-mid c = search tagplacing

pub loop-low-preserved : goal.loop-low-preserved
loop-low-preserved c = search tagplacing

pub returns : goal.returns
returns c = (search tagplacing, search tagplacing)
