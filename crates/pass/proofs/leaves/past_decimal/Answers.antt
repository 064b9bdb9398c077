-- `pass::leaves::past_decimal` meets its contract.
use Rattle.pass.proofs.LeafLaws.{decimal_past}
use Rattle.pass.proofs.leaves.past_decimal.Goals as goal

pub returns : goal.returns
returns c = let p = c.in_ok-point.ensures in
    decimal_past _ _ _ _ _ _ _ _ c.requires.0 c.requires.1 c.from.ensures p.0 p.1 c.if-s-point-ne46.false c.has_digits.ensures c.then_some.ensures
