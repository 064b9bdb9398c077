-- `entries::record::record_kind` meets its contract.
use Rattle.entries.proofs.EntryLaws.{recordkind}
use Rattle.entries.proofs.record.record_kind.Goals as goal

pub returns : goal.returns
returns c = search recordkind
