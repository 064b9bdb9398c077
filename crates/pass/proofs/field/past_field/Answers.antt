-- `pass::field::past_field` meets its contract.
use native.Mathlib.Omega.{arith}
use Rattle.pass.proofs.LeafLaws.{past_none}
use Rattle.pass.proofs.field.past_field.Goals as goal

pub returns-then-s-at-eq44 : goal.returns-then-s-at-eq44
returns-then-s-at-eq44 c = past_none _ _ _ _ _ (omega arith) c.may_be_none.ensures c.then_some.ensures
