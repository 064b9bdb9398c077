-- `text::lines::plain_end` meets its contract.
use Rattle.text.proofs.LineLaws.{plains}
use Rattle.text.proofs.lines.plain_end.Goals as goal

pub returns-then-not-is_plain_byte : goal.returns-then-not-is_plain_byte
returns-then-not-is_plain_byte c = search plains

pub loop-i-preserved : goal.loop-i-preserved
loop-i-preserved c = search plains

pub returns : goal.returns
returns c = search plains
