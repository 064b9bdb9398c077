-- `entries::key::record_key` meets its contract.
use Rattle.entries.proofs.EntryLaws.{recordkey}
use Rattle.entries.proofs.key.record_key.Goals as goal

pub returns : goal.returns
returns c = search recordkey
