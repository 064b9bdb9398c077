-- `layout::begins::put_both` meets its contract.
use Rattle.layout.proofs.BeginsLaws.{parts}
use Rattle.layout.proofs.begins.put_both.Goals as goal

pub returns : goal.returns
returns c = search parts
