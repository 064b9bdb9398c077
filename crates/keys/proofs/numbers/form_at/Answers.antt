-- `keys::numbers::form_at` meets its contract.
use Rattle.keys.proofs.PlaceLaws.{rows}
use Rattle.keys.proofs.numbers.form_at.Goals as goal

pub returns-then-layout-k : goal.returns-then-layout-k
returns-then-layout-k c = search rows

pub row-requires : goal.row-requires
row-requires c = search rows
