-- `entries::references::is_same_key` meets its contract.
use Rattle.entries.proofs.ReferenceLaws.{same_key}
use Rattle.entries.proofs.references.is_same_key.Goals as goal

pub returns : goal.returns
returns c = same_key _ _ _ _ _ _ _ _ _ c.eq.ensures
