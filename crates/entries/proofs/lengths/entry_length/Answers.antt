-- `entries::lengths::entry_length` meets its contract.
use Rattle.entries.proofs.LengthLaws.{longentry}
use Rattle.entries.proofs.lengths.entry_length.Goals as goal

pub returns : goal.returns
returns c = search longentry
