-- What lasts from turn to turn of the loop of `text::put::number`.
use Rattle.std.proofs.Common.{◌≡◌}
use Rattle.theory.specs.Decimal.{dec}
use Rattle.text.specs.Front.{in_front}
use Rattle.text.proofs.PutLaws.{digits_at}
use Rattle.text.proofs.put.number.Given as goal

abbrev pub invariant-loop-i : goal.invariant-loop-i
invariant-loop-i l = digits_at l.out l.left l.i ≡ in_front (dec l.n) l.initial.out
