-- `entries::references::references` meets its contract.
use Rattle.entries.proofs.ReferenceLaws.{entryrefers}
use Rattle.entries.proofs.references.references.Goals as goal

pub returns : goal.returns
returns c = search entryrefers
