-- `layout::begins::goes_on_decimal` meets its contract.
use Rattle.layout.proofs.BeginsLaws.{sampled}
use Rattle.layout.proofs.begins.goes_on_decimal.Goals as goal

pub returns : goal.returns
returns c = search sampled
