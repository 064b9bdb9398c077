-- What lasts from turn to turn of the loop of `keys::numbers::digits_number`.
use Rattle.keys.proofs.PlaceLaws.{digits_left}
use Prim.Native.Nat.{◌+◌, ◌*◌, ◌^◌, ◌≤◌}
use mathlib.Core.Path.{◌≡◌}
use Rattle.theory.specs.Decimal.{value, value_f}
use Rattle.keys.specs.Numbers.{digits_in}
use Rattle.keys.proofs.numbers.digits_number.Given as goal

abbrev pub invariant-loop-i : goal.invariant-loop-i
invariant-loop-i l = (value_f l.v (digits_left l.f l.i) ≡ value (digits_in l.f)) × (l.v + 23 ≤ 23 * 10 ^ l.i)
