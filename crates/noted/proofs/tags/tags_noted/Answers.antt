-- `noted::tags::tags_noted` meets its contract.
use Rattle.noted.proofs.TagLaws.{tagging, tags_none}
use Rattle.noted.proofs.tags.tags_noted.Goals as goal

pub returns-then-starts-eq65537 : goal.returns-then-starts-eq65537
returns-then-starts-eq65537 c = tags_none _ _ _ c.requires c.if-starts-eq65537.true

pub returns : goal.returns
returns c = (search tagging, search tagging)
