-- `entries::key::line_key` meets its contract.
use Rattle.entries.proofs.EntryLaws.{linekey}
use Rattle.entries.proofs.key.line_key.Goals as goal

pub returns : goal.returns
returns c = search linekey
