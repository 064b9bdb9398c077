-- `entries::references::reference_by` meets its contract.
use Rattle.entries.proofs.ReferenceLaws.{byfield}
use Rattle.entries.proofs.references.reference_by.Goals as goal

pub returns-then-is_empty : goal.returns-then-is_empty
returns-then-is_empty c = search byfield

pub returns : goal.returns
returns c = search byfield
