-- What lasts from turn to turn of the loop of `text::numbers::value`.
use Rattle.std.proofs.Common.{◌≡◌, ◌≤◌, ◌+◌, ◌*◌, ◌^◌, drop}
use Rattle.theory.specs.Decimal.{value, value_f}
use Rattle.text.proofs.numbers.value.Given as goal

abbrev pub invariant-loop-b : goal.invariant-loop-b
invariant-loop-b l = (value_f l.v (drop l.b-index l.f) ≡ value l.f) × (l.v + 23 ≤ 23 * 10 ^ l.b-index)
