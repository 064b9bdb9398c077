-- `entries::tags::looseness` meets its contract.
use Rattle.entries.proofs.TagLaws.{loose_told, loose_one, loose_other}
use Rattle.entries.proofs.tags.looseness.Goals as goal
use Rattle.entries.proofs.tags.looseness.Goals.{then-second-ne0, else-second-ne0}

pub returns : goal.returns
returns c = loose_told _ _ _ _ c.from.ensures (elim c.if-second-ne0.branch [ then-second-ne0 w ↦ loose_one _ _ _ w.if-second-ne0.true w.from-is | else-second-ne0 w ↦ loose_other _ _ _ w.if-second-ne0.false w.from-is ])
