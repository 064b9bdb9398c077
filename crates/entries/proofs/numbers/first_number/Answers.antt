-- `entries::numbers::first_number` meets its contract.
use Rattle.entries.proofs.NumberLaws.{firsts}
use Rattle.entries.proofs.numbers.first_number.Goals as goal

pub returns-then-place-eq4 : goal.returns-then-place-eq4
returns-then-place-eq4 c = search firsts

pub returns : goal.returns
returns c = search firsts
