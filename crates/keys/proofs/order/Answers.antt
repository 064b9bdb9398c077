-- `keys::order` meets its contract.
use Rattle.keys.proofs.RowLaws.{key_told}
use Rattle.keys.proofs.order.Goals as goal

pub returns : goal.returns
returns c = key_told _ _ _ _ _ _ _ _ _ c.cmp.ensures
