-- `entries::references::reference_at` meets its contract.
use Rattle.entries.proofs.ReferenceLaws.{rowat}
use Rattle.entries.proofs.references.reference_at.Goals as goal

pub returns-then-place-lt4 : goal.returns-then-place-lt4
returns-then-place-lt4 c = search rowat

pub returns : goal.returns
returns c = search rowat
