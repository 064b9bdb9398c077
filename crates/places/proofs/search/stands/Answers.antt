-- `places::search::stands` meets its contract.
use Rattle.places.proofs.SearchLaws.{standing}
use Rattle.places.proofs.search.stands.Goals as goal

pub bounds-tags-i : goal.bounds-tags-i
bounds-tags-i c = search standing

pub by_tags-requires : goal.by_tags-requires
by_tags-requires c = (search standing, search standing)

pub returns-then-i-count : goal.returns-then-i-count
returns-then-i-count c = search standing

pub returns-else-i-count : goal.returns-else-i-count
returns-else-i-count c = search standing
