-- `writer::lines::put_front` meets its contract.
use Rattle.writer.proofs.LineLaws.{front}
use Rattle.writer.proofs.lines.put_front.Goals as goal

pub returns : goal.returns
returns c = search front
