-- `text::order::texts` meets its contract.
use Rattle.std.proofs.Common.{ap, ◌∙◌}
use Rattle.text.specs.Order.{tri_of}
use Rattle.text.proofs.OrderLaws.{tri_slice_cmp}
use Rattle.text.proofs.order.texts.Goals as goal

pub returns : goal.returns
returns c = ap tri_of c.cmp.ensures ∙ tri_slice_cmp c.args.a.now c.args.b.now
