-- `muiwash::numbers::sided` meets its contract.
use Rattle.meaning.specs.Enquiries.{refusal}
use Rattle.muiwash.proofs.numbers.sided.Goals as goal

pub returns-in-Err : goal.returns-in-Err
unfolding refusal
returns-in-Err c = rw (c.in-Err.is, c.from.ensures)
