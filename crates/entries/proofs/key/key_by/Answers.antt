-- `entries::key::key_by` meets its contract.
use Rattle.keys.proofs.RowLaws.{keyed}
use Rattle.entries.proofs.key.key_by.Goals as goal

pub returns : goal.returns
returns c = search keyed
