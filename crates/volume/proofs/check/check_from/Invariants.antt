-- What lasts from turn to turn of the loops of `volume::check::check_from`, and what each turn of the outer makes smaller.
use mathlib.Core.Path.{◌≡◌}
use Prim.Native.Nat.{◌-◌, ◌^◌, ◌<◌}
use lib.ListN.{length}
use Rattle.layout.specs.Meant.{kind_meant}
use Rattle.layout.proofs.PassLaws.{Passing}
use Rattle.volume.specs.Reading.{Reading}
use Rattle.volume.proofs.check.check_from.Given as goal

abbrev pub invariant-loop-k : goal.invariant-loop-k
invariant-loop-k l = Passing (kind_meant l.kind) l.text l.ends l.k-end l.k l.start

abbrev pub invariant-lines : goal.invariant-lines
invariant-lines l = (Reading l.file l.walk l.at) × (length l.ends ≡ 32) × (length l.file < 2 ^ 63)

abbrev pub decreases-lines : goal.decreases-lines
decreases-lines l = length l.file - l.at
