-- `text::fields::field` meets its contract.
use Rattle.text.proofs.fields.field.Goals as goal

pub returns : goal.returns
returns c = rw c.field_end.ensures.0 c.field_start-at.ensures.stands
