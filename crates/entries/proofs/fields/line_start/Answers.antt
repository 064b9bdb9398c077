-- `entries::fields::line_start` meets its contract.
use Rattle.entries.proofs.FieldLaws.{start_min}
use Rattle.entries.proofs.fields.line_start.Goals as goal

pub returns : goal.returns
returns c = start_min _ _ _ c.min.ensures
