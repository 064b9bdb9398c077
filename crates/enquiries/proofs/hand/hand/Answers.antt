-- `enquiries::hand::hand` meets its contract.
use Rattle.enquiries.proofs.HandLaws.{handing}
use Rattle.enquiries.proofs.hand.hand.Goals as goal

pub returns-in-Err : goal.returns-in-Err
returns-in-Err c = search handing
