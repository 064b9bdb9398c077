-- `pass::leaves::past_at_least_1` meets its contract.
use Rattle.pass.proofs.LeafLaws.{least_past}
use Rattle.pass.proofs.leaves.past_at_least_1.Goals as goal

pub returns : goal.returns
returns c = least_past _ _ _ _ _ _ c.in_ok-end.ensures.0 c.is_worth_1.ensures c.then_some.ensures
