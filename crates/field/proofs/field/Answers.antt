-- `field::field` meets its contract.
use Rattle.field.proofs.HandLaws.{handing}
use Rattle.field.proofs.field.Goals as goal

pub hand-requires : goal.hand-requires
hand-requires c = search handing
