-- `entries::key::entry_key` meets its contract.
use Rattle.entries.proofs.EntryLaws.{entrykey}
use Rattle.entries.proofs.key.entry_key.Goals as goal

pub returns : goal.returns
returns c = search entrykey
