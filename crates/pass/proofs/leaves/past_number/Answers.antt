-- `pass::leaves::past_number` meets its contract.
use native.Mathlib.Omega.{arith}
use Rattle.pass.proofs.LeafLaws.{number_seen}
use Rattle.pass.proofs.leaves.past_number.Goals as goal

pub returns : goal.returns
returns c = let d = c.past_digits-end.ensures in (number_seen _ _ _ _ d.0 (omega arith) d.2 c.if-end-at.false (omega arith), d.1)
