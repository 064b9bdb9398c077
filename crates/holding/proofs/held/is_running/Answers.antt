-- `holding::held::is_running` meets its contract.
use Rattle.holding.proofs.RunningLaws.{runs}
use Rattle.holding.proofs.held.is_running.Goals as goal
use Rattle.holding.proofs.held.is_running.Goals.{then-f-ne48, else-f-ne48}

pub returns-then-f-le16 : goal.returns-then-f-le16
returns-then-f-le16 c = λ h. elim c.if-f-ne48.branch [ then-f-ne48 w ↦ search runs | else-f-ne48 w ↦ search runs ]
