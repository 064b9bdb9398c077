-- `keys::numbers::text_number` meets its contract.
use Rattle.keys.proofs.PlaceLaws.{runs}
use Rattle.keys.proofs.numbers.text_number.Goals as goal

pub overflow_mul-result : goal.overflow_mul-result
overflow_mul-result c = search runs

pub overflow_add-result : goal.overflow_add-result
overflow_add-result c = search runs

pub returns-then-f-eq16 : goal.returns-then-f-eq16
returns-then-f-eq16 c = search runs
