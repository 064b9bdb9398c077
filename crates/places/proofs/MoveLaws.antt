-- The laws by which a copy within an array makes room and closes up; o is the array as it was lent.
use mathlib.Core.Path.{◌≡◌, ap, ◌∙◌}
use mathlib.Core.List.{List, [], ◌∷◌, ◌++◌, append_assoc}
use Prim.Native.Nat.{ℕ, ◌+◌, ◌-◌, ◌≤◌, ◌<◌}
use native.Mathlib.Omega.{arith}
use native.Mathlib.Numerals.{add-one}
use lib.ListN.{length, get_or, take, drop, set}
use lib.Seq.{take-suc, length-take-le, set_at, paste}
use Rattle.places.specs.Places.{opened, closed}

-- room made, v stands at i
pub open_told : {A : Type 0} (o a : List A) (n i : ℕ) (v : A) → a ≡ paste o (i + 1) (drop i o) (n - i) → i ≤ n → n < length o → set a i v ≡ opened o n i v
unfolding opened
open_told o a n i v e m l =
    let z : i + 1 + (n - i) ≡ n + 1 = omega arith in
    let b : length (take i o) ≡ i = length-take-le i o (omega arith) in
    let t : take (i + 1) o ≡ take i o ++ (get_or o i v ∷ []) = rw (add-one i) (take-suc o i v (omega arith)) in
    rw (e, append_assoc (take (i + 1) o) (take (n - i) (drop i o)) (drop (i + 1 + (n - i)) o), z, t, append_assoc (take i o) (get_or o i v ∷ []) (take (n - i) (drop i o) ++ drop (n + 1) o))
    (set_at (take i o) (get_or o i v) (take (n - i) (drop i o) ++ drop (n + 1) o) v i b)

-- closed up over i
pub close_told : {A : Type 0} (o a : List A) (n i : ℕ) → a ≡ paste o i (drop (i + 1) o) (n - (i + 1)) → i < n → a ≡ closed o n i
unfolding closed
close_told o a n i e m =
    let z : i + (n - (i + 1)) ≡ n - 1 = omega arith in
    e ∙ append_assoc (take i o) (take (n - (i + 1)) (drop (i + 1) o)) (drop (i + (n - (i + 1))) o) ∙ ap (λ k. take i o ++ (take (n - (i + 1)) (drop (i + 1) o) ++ drop k o)) z
