-- `text::order::numbers` meets its contract.
use Rattle.std.proofs.Common.{ap, ◌∙◌}
use Rattle.text.specs.Order.{tri_of}
use Rattle.text.proofs.OrderLaws.{tri_cmp}
use Rattle.text.proofs.order.numbers.Goals as goal

pub returns : goal.returns
returns c = ap tri_of c.cmp.ensures ∙ tri_cmp c.args.x c.args.y
