-- `entries::numbers::number_here` meets its contract.
use Rattle.entries.proofs.NumberLaws.{numbering}
use Rattle.entries.proofs.numbers.number_here.Goals as goal

pub returns-then-is_textual : goal.returns-then-is_textual
returns-then-is_textual c = search numbering

pub returns : goal.returns
returns c = search numbering
