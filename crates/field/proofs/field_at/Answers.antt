-- `field::field_at` meets its contract.
use Rattle.field.proofs.FieldPartLaws.{fieldat, field_there}
use borrow.Author.Rules.{rules}
use Rattle.field.proofs.field_at.Goals as goal

pub returns-then-field_count-k : goal.returns-then-field_count-k
returns-then-field_count-k c = search fieldat

pub returns : goal.returns
returns c = let k = c.in_ok-k.ensures in field_there _ _ _ _ k.0 k.1 c.field_count.ensures _ _ (search rules) c.field_start-start.ensures c.field_end-end.ensures.0 c.field_end-end.ensures.1 c.field_end-end.ensures.2
