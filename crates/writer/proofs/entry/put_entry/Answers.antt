-- `writer::entry::put_entry` meets its contract.
use Rattle.writer.proofs.EntryLaws.{entryline}
use Rattle.writer.proofs.entry.put_entry.Goals as goal

pub returns-then-entry-eq0 : goal.returns-then-entry-eq0
returns-then-entry-eq0 c = search entryline

pub returns : goal.returns
returns c = search entryline
