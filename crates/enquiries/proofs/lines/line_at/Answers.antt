-- `enquiries::lines::line_at` meets its contract.
use Rattle.enquiries.proofs.LineSeekLaws.{seekline}
use Rattle.enquiries.proofs.lines.line_at.Goals as goal

pub returns-then-left-eq0 : goal.returns-then-left-eq0
returns-then-left-eq0 c = search seekline

pub loop-at-preserved : goal.loop-at-preserved
loop-at-preserved c = search seekline

pub returns : goal.returns
returns c = search seekline
