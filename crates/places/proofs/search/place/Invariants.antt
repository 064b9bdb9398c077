-- What lasts from turn to turn of the loop of `places::search::place`, and what each turn makes smaller.
use Rattle.places.proofs.SearchLaws.{Placing}
use Prim.Native.Nat.{◌-◌}
use Rattle.keys.specs.Numbers.{key_list}
use Rattle.places.proofs.search.place.Given as goal

abbrev pub invariant-loop-low : goal.invariant-loop-low
invariant-loop-low l = Placing l.holding l.file l.places l.count (key_list l.key) l.low l.high

abbrev pub decreases-loop-low : goal.decreases-loop-low
decreases-loop-low l = l.high - l.low
