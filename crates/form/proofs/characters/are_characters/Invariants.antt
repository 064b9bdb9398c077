-- What lasts from turn to turn of the loop of `form::characters::are_characters`, and what each turn makes smaller.
use mathlib.Core.Path.{◌≡◌}
use lib.ListN.{length}
use Rattle.meaning.specs.Forms.{by_characters}
use Rattle.form.proofs.characters.are_characters.Given as goal

abbrev pub invariant-loop-n : goal.invariant-loop-n
invariant-loop-n l = by_characters l.left l.rest ≡ by_characters l.w l.t

abbrev pub decreases-loop-n : goal.decreases-loop-n
decreases-loop-n l = length l.rest
