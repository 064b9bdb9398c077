-- `holding::unmet::note_noted` meets its contract.
use Rattle.holding.proofs.ReadLaws.{tells}
use borrow.Author.Rules.{rules}
use Rattle.holding.proofs.unmet.note_noted.Goals as goal

pub note_tags-requires : goal.note_tags-requires
note_tags-requires c = (search rules, search rules, search rules, search tells, search rules, search rules)
