-- `find::is_enquired` meets its contract.
use Rattle.find.proofs.FindLaws.{asked}
use Rattle.find.proofs.is_enquired.Goals as goal

pub returns-then-kind-number : goal.returns-then-kind-number
returns-then-kind-number c = search asked

pub returns-else-kind-number : goal.returns-else-kind-number
returns-else-kind-number c = search asked
