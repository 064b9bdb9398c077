-- How the test of one byte in its place meets a part of one byte.
use mathlib.Core.Path.{◌≡◌}
use mathlib.Core.Bool.{and-true}
use mathlib.Core.List.{List, [], ◌∷◌}
use Prim.Native.Nat.{ℕ, ◌+◌, ◌-◌, ◌<◌}
use native.Mathlib.Omega.{arith}
use lib.Dec.{eqb}
use lib.ListN.{length, get_or}
use Rattle.base.specs.Lists.{same, part}
use Rattle.base.proofs.Walk.{at_cons}

-- a part of one byte is the same as x just where the byte in its place is x
pub one : (f : List ℕ) (k x : ℕ) → k < length f → same (part f k (k + 1)) (x ∷ []) ≡ eqb (get_or f k 0) x
unfolding same part
one f k x h = let z : k + 1 - k ≡ 1 = omega arith in rw (z, at_cons f k h) (and-true (eqb (get_or f k 0) x))
