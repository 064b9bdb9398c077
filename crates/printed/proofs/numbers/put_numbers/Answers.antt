-- `printed::numbers::put_numbers` meets its contract.
use Rattle.printed.proofs.ListedLaws.{listed}
use Rattle.printed.proofs.numbers.put_numbers.Goals as goal

pub returns : goal.returns
returns c = (search listed, search listed, search listed)
