-- `text::lines::line_end` meets its contract.
use Rattle.text.proofs.LineLaws.{line}
use Rattle.text.proofs.lines.line_end.Goals as goal

pub returns-then-ends_at : goal.returns-then-ends_at
returns-then-ends_at c = search line

pub loop-i-preserved : goal.loop-i-preserved
loop-i-preserved c = search line

pub returns : goal.returns
returns c = search line
