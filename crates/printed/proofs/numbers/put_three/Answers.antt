-- `printed::numbers::put_three` meets its contract.
use Rattle.printed.proofs.ListedLaws.{threefold}
use Rattle.printed.proofs.numbers.put_three.Goals as goal

pub returns : goal.returns
returns c = (search threefold, search threefold, search threefold)
