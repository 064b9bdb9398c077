-- `holding::held::is_number` meets its contract.
use Rattle.holding.proofs.HeldLaws.{numbers}
use Rattle.text.proofs.NumberLaws.{width_most}
use borrow.Author.Rules.{rules}
use Rattle.holding.proofs.held.is_number.Goals as goal

pub number-width-requires : goal.number-width-requires
number-width-requires c = search numbers

pub slice_bounds-is_same-end : goal.slice_bounds-is_same-end
slice_bounds-is_same-end c = let w = width_most _ c.ranges.number in search rules

pub returns : goal.returns
returns c = search numbers
