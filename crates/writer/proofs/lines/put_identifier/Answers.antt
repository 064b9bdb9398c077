-- `writer::lines::put_identifier` meets its contract.
use Rattle.writer.proofs.LineLaws.{identifier}
use Rattle.writer.proofs.lines.put_identifier.Goals as goal

pub number-requires : goal.number-requires
number-requires c = search identifier

pub returns : goal.returns
returns c = search identifier
