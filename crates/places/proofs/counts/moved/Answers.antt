-- `places::counts::moved` meets its contract.
use Rattle.places.proofs.NoteLaws.{moving}
use Rattle.places.proofs.counts.moved.Goals as goal

pub overflow_add-result : goal.overflow_add-result
overflow_add-result c = search moving

pub returns-then-up : goal.returns-then-up
returns-then-up c = search moving

pub overflow_sub-result : goal.overflow_sub-result
overflow_sub-result c = search moving

pub returns-else-up : goal.returns-else-up
returns-else-up c = search moving
