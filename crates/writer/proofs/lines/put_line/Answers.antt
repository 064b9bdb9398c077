-- `writer::lines::put_line` meets its contract.
use Rattle.writer.proofs.LineLaws.{line}
use Rattle.writer.proofs.lines.put_line.Goals as goal

pub returns : goal.returns
returns c = (search line, search line)
