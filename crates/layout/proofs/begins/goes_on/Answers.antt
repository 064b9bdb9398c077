-- `layout::begins::goes_on` meets its contract.
use Rattle.layout.proofs.BeginsLaws.{going}
use Rattle.layout.proofs.begins.goes_on.Goals as goal

pub loop-i-init : goal.loop-i-init
loop-i-init c = search going

pub sound_together-requires : goal.sound_together-requires
sound_together-requires c = search going

pub returns-then-sound_together : goal.returns-then-sound_together
returns-then-sound_together c = search going

pub loop-i-preserved : goal.loop-i-preserved
loop-i-preserved c = search going

pub returns : goal.returns
returns c = search going
