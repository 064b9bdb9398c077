-- What lasts from turn to turn of the loop of `entries::numbers::value_at`.
use Rattle.entries.proofs.NumberLaws.{left_of}
use mathlib.Core.Path.{◌≡◌}
use Prim.Native.Nat.{◌+◌, ◌-◌, ◌*◌, ◌^◌, ◌≤◌}
use lib.ListN.{take}
use Rattle.theory.specs.Decimal.{value, value_f}
use Rattle.entries.specs.Entries.{line_at}
use Rattle.entries.specs.Fields.{first_field}
use Rattle.entries.proofs.numbers.value_at.Given as goal

abbrev pub invariant-loop-i : goal.invariant-loop-i
invariant-loop-i l = (value_f l.value (left_of l.bytes l.at l.i) ≡ value (take 16 (first_field (line_at l.bytes l.at)))) × (l.value + 23 ≤ 23 * 10 ^ (l.i - l.at)) × (l.at ≤ l.i) × (l.i ≤ l.most)
