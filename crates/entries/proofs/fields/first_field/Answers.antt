-- `entries::fields::first_field` meets its contract.
use Rattle.entries.proofs.FieldLaws.{fielding}
use Rattle.entries.proofs.fields.first_field.Goals as goal

pub returns : goal.returns
returns c = search fielding
