-- `places::search::place` meets its contract.
use Rattle.places.proofs.SearchLaws.{placing}
use Rattle.places.proofs.search.place.Goals as goal

pub loop-low-init : goal.loop-low-init
loop-low-init c = search placing

pub bounds-tags-mid : goal.bounds-tags-mid
bounds-tags-mid c = search placing

pub by_tags-requires : goal.by_tags-requires
by_tags-requires c = (search placing, search placing)

pub loop-low-preserved-then-is_gt : goal.loop-low-preserved-then-is_gt
loop-low-preserved-then-is_gt c = search placing

pub loop-low-preserved : goal.loop-low-preserved
loop-low-preserved c = search placing

pub returns : goal.returns
returns c = (search placing, search placing)
