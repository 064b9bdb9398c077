-- `find::find` meets its contract.
use Rattle.find.proofs.HandLaws.{handing}
use Rattle.find.proofs.find.Goals as goal

pub hand-requires : goal.hand-requires
hand-requires c = search handing
