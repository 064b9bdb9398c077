-- What lasts from turn to turn of the loop of `layout::place::place_by`.
use Prim.Native.Nat.{◌-◌}
use Rattle.layout.proofs.PlaceLaws.{Going}
use Rattle.layout.proofs.place.place_by.Given as goal

abbrev pub invariant-loop-end : goal.invariant-loop-end
invariant-loop-end l = Going l.row l.f (l.end - 1)
