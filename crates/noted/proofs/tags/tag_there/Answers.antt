-- `noted::tags::tag_there` meets its contract.
use Rattle.noted.proofs.TagLaws.{there}
use Rattle.noted.proofs.tags.tag_there.Goals as goal

pub returns-then-off-eq1 : goal.returns-then-off-eq1
returns-then-off-eq1 c = search there

pub returns : goal.returns
returns c = search there
