-- `writer::entry::line_text` meets its contract.
use Rattle.writer.proofs.EntryLaws.{linetext}
use Rattle.writer.proofs.entry.line_text.Goals as goal

pub returns-then-bytes-at : goal.returns-then-bytes-at
returns-then-bytes-at c = search linetext

pub returns : goal.returns
returns c = search linetext
