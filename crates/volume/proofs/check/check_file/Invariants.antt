-- What lasts from turn to turn of the loop of `volume::check::check_file`, and what each turn makes smaller.
use mathlib.Core.Path.{◌≡◌}
use Prim.Native.Nat.{◌-◌, ◌≤◌}
use lib.ListN.{length}
use Rattle.volume.specs.Reading.{Reading}
use Rattle.volume.proofs.check.check_file.Given as goal

abbrev pub invariant-loop-after : goal.invariant-loop-after
invariant-loop-after l = (Reading l.file l.walk l.at) × (l.at ≤ length l.file) × (length l.ends ≡ 32)

abbrev pub decreases-loop-after : goal.decreases-loop-after
decreases-loop-after l = length l.file - l.at
