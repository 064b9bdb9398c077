-- `text::order::is_same` meets its contract.
use Rattle.base.proofs.StdLists.{same_told}
use Rattle.text.proofs.order.is_same.Goals as goal

pub returns : goal.returns
returns c = same_told c.args.a.now c.args.b.now c.eq.result c.eq.ensures
