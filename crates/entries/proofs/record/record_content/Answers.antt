-- `entries::record::record_content` meets its contract.
use Rattle.entries.proofs.EntryLaws.{recordcontent}
use Rattle.entries.proofs.record.record_content.Goals as goal

pub returns : goal.returns
returns c = search recordcontent
