-- `enquiries::finding::line_found` meets its contract.
use Rattle.enquiries.proofs.HandLaws.{finding}
use Rattle.enquiries.proofs.finding.line_found.Goals as goal

pub returns : goal.returns
returns c = search finding
