-- `holding::held::passes` meets its contract.
use Rattle.holding.proofs.HeldLaws.{passing}
use Rattle.holding.proofs.held.passes.Goals as goal
use Rattle.holding.proofs.held.passes.Goals.{then-is_held, else-is_held, then-is_ok, else-is_ok}

pub returns-then-is_same : goal.returns-then-is_same
returns-then-is_same c = elim c.if-is_ok.branch [ then-is_ok w ↦ elim c.if-is_held.branch [ then-is_held v ↦ search passing | else-is_held v ↦ search passing ] | else-is_ok w ↦ search passing ]

pub returns-else-is_same : goal.returns-else-is_same
returns-else-is_same c = elim c.if-is_ok.branch [ then-is_ok w ↦ elim c.if-is_held.branch [ then-is_held v ↦ search passing | else-is_held v ↦ search passing ] | else-is_ok w ↦ elim c.if-is_held.branch [ then-is_held v ↦ search passing | else-is_held v ↦ search passing ] ]
