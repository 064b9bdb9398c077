-- `pass::leaves::past_text` meets its contract.
use native.Mathlib.Omega.{arith}
use Rattle.pass.proofs.LeafLaws.{text_empty, text_other, text_ascii}
use Rattle.pass.proofs.leaves.past_text.Goals as goal

pub returns-then-s-from-eq34 : goal.returns-then-s-from-eq34
returns-then-s-from-eq34 c = text_empty _ _ _ _ _ (omega arith) c.if-s-at-ne34.false c.if-s-from-eq34.true c.then_some.ensures

pub returns-then-s-last-ne34 : goal.returns-then-s-last-ne34
returns-then-s-last-ne34 c = text_other _ _ _ _ _ c.if-s-from-eq34.false c.past_characters.ensures

pub returns : goal.returns
returns c = let a = c.past_ascii-last.ensures in
    text_other _ _ _ _ _ c.if-s-from-eq34.false
    (text_ascii _ _ _ _ _ a.0 (omega arith) c.if-s-at-ne34.false c.if-s-last-ne34.false a.2 c.then_some-2.ensures)
