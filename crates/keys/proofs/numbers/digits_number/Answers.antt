-- `keys::numbers::digits_number` meets its contract.
use Rattle.keys.proofs.PlaceLaws.{digits}
use Rattle.keys.proofs.numbers.digits_number.Goals.{then-i-ne5, else-i-ne5}
use Rattle.keys.proofs.numbers.digits_number.Goals as goal

pub loop-i-init : goal.loop-i-init
loop-i-init c = search digits

pub overflow_mul-v : goal.overflow_mul-v
overflow_mul-v c = search digits

pub overflow_add-v : goal.overflow_add-v
overflow_add-v c = search digits

pub loop-i-preserved : goal.loop-i-preserved
loop-i-preserved c = elim c.if-i-ne5.branch [ then-i-ne5 w ↦ rw w.v-is (search digits) | else-i-ne5 w ↦ rw w.v-is (search digits) ]

pub returns : goal.returns
returns c = search digits
