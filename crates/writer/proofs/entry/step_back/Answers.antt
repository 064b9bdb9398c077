-- `writer::entry::step_back` meets its contract.
use Rattle.writer.proofs.EntryLaws.{stepback}
use Rattle.writer.proofs.entry.step_back.Goals as goal

pub returns : goal.returns
returns c = search stepback
