-- `places::search::by_tags` meets its contract.
use Rattle.entries.proofs.TagLaws.{tagorder}
use Rattle.places.proofs.search.by_tags.Goals as goal

pub returns-then-ours-its : goal.returns-then-ours-its
returns-then-ours-its c = search tagorder

pub returns-then-its-ours : goal.returns-then-its-ours
returns-then-its-ours c = search tagorder

pub returns-then-ours-eq0 : goal.returns-then-ours-eq0
returns-then-ours-eq0 c = search tagorder

pub returns : goal.returns
returns c = search tagorder
