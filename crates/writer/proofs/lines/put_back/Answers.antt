-- `writer::lines::put_back` meets its contract.
use Rattle.writer.proofs.LineLaws.{back}
use Rattle.writer.proofs.lines.put_back.Goals as goal

pub returns : goal.returns
returns c = search back
