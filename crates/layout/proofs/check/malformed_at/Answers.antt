-- `layout::check::malformed_at` meets its contract.
use borrow.Author.Rules.{rules}
use Rattle.layout.proofs.CheckLaws.{field_few}
use Rattle.layout.proofs.check.malformed_at.Goals as goal

pub overflow_add-k : goal.overflow_add-k
overflow_add-k c = let w = field_few _ _ c.requires in search rules
