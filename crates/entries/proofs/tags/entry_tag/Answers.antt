-- `entries::tags::entry_tag` meets its contract.
use Rattle.entries.proofs.TagLaws.{entrytag}
use Rattle.entries.proofs.tags.entry_tag.Goals as goal

pub returns : goal.returns
returns c = search entrytag
