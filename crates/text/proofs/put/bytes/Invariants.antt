-- What lasts from turn to turn of the loop of `text::put::bytes`.
use mathlib.Core.Path.{◌≡◌}
use lib.ListN.{take}
use Rattle.text.specs.Front.{in_front}
use Rattle.text.proofs.put.bytes.Given as goal

abbrev pub invariant-loop-i : goal.invariant-loop-i
invariant-loop-i l = l.out ≡ in_front (take l.i l.s) l.initial.out
