-- `entries::key::against` meets its contract.
use Rattle.entries.proofs.EntryLaws.{keyagainst}
use Rattle.entries.proofs.key.against.Goals as goal

pub returns : goal.returns
returns c = search keyagainst
