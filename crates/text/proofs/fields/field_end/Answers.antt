-- `text::fields::field_end` meets its contract.
use Rattle.text.proofs.FieldLaws.{ending}
use Rattle.text.proofs.fields.field_end.Goals as goal

pub returns-in-44 : goal.returns-in-44
returns-in-44 c = search ending

pub loop-i-preserved : goal.loop-i-preserved
loop-i-preserved c = search ending

pub returns : goal.returns
returns c = search ending
