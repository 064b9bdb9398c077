-- `text::numbers::value` meets its contract.
use Rattle.text.proofs.NumberLaws.{reading}
use Rattle.text.proofs.numbers.value.Goals as goal

pub loop-b-init : goal.loop-b-init
loop-b-init c = search reading

pub overflow_mul-v : goal.overflow_mul-v
overflow_mul-v c = search reading

pub overflow_add-v : goal.overflow_add-v
overflow_add-v c = search reading

pub loop-b-preserved : goal.loop-b-preserved
loop-b-preserved c = search reading

pub returns : goal.returns
returns c = search reading
