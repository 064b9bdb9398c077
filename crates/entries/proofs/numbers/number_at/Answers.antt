-- `entries::numbers::number_at` meets its contract.
use Rattle.entries.proofs.NumberLaws.{placing}
use Rattle.entries.proofs.numbers.number_at.Goals as goal

pub returns-then-place-lt4 : goal.returns-then-place-lt4
returns-then-place-lt4 c = search placing

pub returns : goal.returns
returns c = search placing
