-- `text::put::number` meets its contract.
use Rattle.text.proofs.PutLaws.{numbering}
use Rattle.text.proofs.put.number.Goals as goal

pub loop-i-init : goal.loop-i-init
loop-i-init c = search numbering

pub loop-i-preserved : goal.loop-i-preserved
loop-i-preserved c = search numbering

pub returns : goal.returns
returns c = search numbering
