-- `entries::key::against_line` meets its contract.
use Rattle.entries.proofs.EntryLaws.{lineorder}
use Rattle.entries.proofs.key.against_line.Goals as goal

pub returns : goal.returns
returns c = search lineorder
