-- What lasts from turn to turn of the loop of `places::met::meets`.
use mathlib.Core.Path.{◌≡◌}
use lib.ListN.{drop}
use Rattle.base.specs.Lists.{all}
use Rattle.keys.specs.Numbers.{key_list}
use Rattle.places.specs.Places.{says}
use Rattle.places.proofs.MetLaws.{met_as}
use Rattle.places.proofs.met.meets.Given as goal

abbrev pub invariant-loop-key : goal.invariant-loop-key
invariant-loop-key l = all (met_as (says l.holding l.file l.places l.count) (key_list l.own)) (drop l.key-index l.key-items) ≡ all (met_as (says l.holding l.file l.places l.count) (key_list l.own)) l.key-items
