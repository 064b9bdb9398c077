-- What lasts from turn to turn of the loop of `form::texts::all_ascii_text`.
use mathlib.Core.Path.{◌≡◌}
use mathlib.Core.Bool.{true}
use lib.ListN.{take}
use Rattle.base.specs.Lists.{all}
use Rattle.form.specs.Characters.{is_ascii_text}
use Rattle.form.proofs.texts.all_ascii_text.Given as goal

abbrev pub invariant-loop-b : goal.invariant-loop-b
invariant-loop-b l = all is_ascii_text (take l.b-index l.t) ≡ true
