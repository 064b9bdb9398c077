-- What lasts from turn to turn of the loop of `number::is_digits`.
use mathlib.Core.Path.{◌≡◌}
use mathlib.Core.Bool.{true}
use lib.ListN.{take}
use Rattle.base.specs.Lists.{all}
use Rattle.meaning.specs.Forms.{is_digit}
use Rattle.number.proofs.is_digits.Given as goal

abbrev pub invariant-loop-b : goal.invariant-loop-b
invariant-loop-b l = all is_digit (take l.b-index l.f) ≡ true
