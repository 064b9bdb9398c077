-- What lasts from turn to turn of the loop of `places::search::place_tagged`, and what each turn makes smaller.
use Rattle.places.proofs.SearchLaws.{Placing}
use Rattle.keys.specs.Numbers.{key_list}
use Rattle.entries.specs.Tags.{key_tagged}
use Prim.Native.Nat.{◌-◌}
use Rattle.places.proofs.search.place_tagged.Given as goal

abbrev pub invariant-loop-low : goal.invariant-loop-low
invariant-loop-low l = Placing l.holding l.file l.places l.count (key_list (key_tagged l.ours)) l.low l.high

abbrev pub decreases-loop-low : goal.decreases-loop-low
decreases-loop-low l = l.high - l.low
