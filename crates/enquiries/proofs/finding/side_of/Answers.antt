-- `enquiries::finding::side_of` meets its contract.
use Rattle.enquiries.proofs.HandLaws.{sides}
use Rattle.enquiries.proofs.finding.side_of.Goals as goal

pub returns-in-Err : goal.returns-in-Err
returns-in-Err c = search sides
