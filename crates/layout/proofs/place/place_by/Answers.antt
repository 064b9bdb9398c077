-- `layout::place::place_by` meets its contract.
use Rattle.layout.proofs.PlaceLaws.{placing}
use Rattle.layout.proofs.place.place_by.Goals.{else-loop-end-test, then-loop-end-test+else-not-begins+else-end-end-end}
use Rattle.layout.proofs.place.place_by.Goals as goal

pub returns-then-sound_by : goal.returns-then-sound_by
returns-then-sound_by c = search placing

pub loop-end-init : goal.loop-end-init
loop-end-init c = search placing

pub returns-then-not-begins : goal.returns-then-not-begins
returns-then-not-begins c = search placing

pub loop-end-preserved : goal.loop-end-preserved
loop-end-preserved c = search placing

pub returns : goal.returns
returns c = elim c.loop-end-test.branch [ else-loop-end-test w ↦ search placing | then-loop-end-test+else-not-begins+else-end-end-end w ↦ search placing ]
