-- `in_force::naming::last_naming` meets its contract.
use Rattle.in_force.proofs.NamingLaws.{walking, walk_turn}
use native.Mathlib.Omega.{arith}
use Rattle.in_force.proofs.naming.last_naming.Goals as goal

pub loop-at-preserved : goal.loop-at-preserved
loop-at-preserved c = (walk_turn _ _ _ _ _ _ c.loop-at.invariant.0 _ _ _ c.loop-at-test.true c.named_at.ensures c.later-last.ensures c.line_end-at.ensures.0, omega arith, omega arith)

pub returns : goal.returns
returns c = search walking
