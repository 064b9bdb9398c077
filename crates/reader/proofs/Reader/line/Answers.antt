-- `reader::Reader::line` meets its contract.
use Rattle.reader.proofs.ReaderLaws.{lines}
use Rattle.reader.proofs.Reader.line.Goals as goal

pub returns-then-self : goal.returns-then-self
returns-then-self c = search lines

pub returns : goal.returns
returns c = search lines
