-- `text::fields::field_start` meets its contract.
use Rattle.text.proofs.SeekLaws.{seek}
use Rattle.text.proofs.fields.field_start.Goals as goal

pub loop-init : goal.loop-init
loop-init c = search seek

pub returns-then-end-line : goal.returns-then-end-line
returns-then-end-line c = search seek

pub loop-preserved : goal.loop-preserved
loop-preserved c = search seek

pub returns : goal.returns
returns c = search seek
