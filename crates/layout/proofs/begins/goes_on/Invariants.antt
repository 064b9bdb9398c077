-- What lasts from turn to turn of the loop of `layout::begins::goes_on`.
use mathlib.Core.Path.{◌≡◌}
use lib.ListN.{drop}
use Rattle.meaning.specs.Place.{goes_on}
use Rattle.layout.specs.Rows.{sound_by}
use Rattle.layout.proofs.begins.goes_on.Given as goal

abbrev pub invariant-loop-i : goal.invariant-loop-i
invariant-loop-i l = goes_on (sound_by l.row) l.p (drop l.i l.sample) ≡ goes_on (sound_by l.row) l.p l.sample
