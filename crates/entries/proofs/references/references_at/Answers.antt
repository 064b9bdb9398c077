-- `entries::references::references_at` meets its contract.
use Rattle.entries.proofs.ReferenceLaws.{atrefers}
use Rattle.entries.proofs.references.references_at.Goals as goal

pub returns : goal.returns
returns c = search atrefers
