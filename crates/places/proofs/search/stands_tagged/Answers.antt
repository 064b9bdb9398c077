-- `places::search::stands_tagged` meets its contract.
use Rattle.places.proofs.SearchLaws.{tagstanding}
use Rattle.places.proofs.search.stands_tagged.Goals as goal

pub bounds-tags-i : goal.bounds-tags-i
bounds-tags-i c = search tagstanding

pub returns-then-i-count : goal.returns-then-i-count
returns-then-i-count c = search tagstanding

pub returns-else-i-count : goal.returns-else-i-count
returns-else-i-count c = search tagstanding
