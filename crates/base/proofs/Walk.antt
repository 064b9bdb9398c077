-- How a loop walks a list: what is left at i is the element at i and what is left after it, or nothing.
use mathlib.Core.Path.{◌≡◌}
use mathlib.Core.List.{List, [], ◌∷◌}
use Prim.Native.Nat.{ℕ, ◌+◌, ◌≤◌, ◌<◌}
use native.Mathlib.Numerals.{add-one}
use lib.ListN.{length, get_or, drop, drop_of_length-le}
use lib.Seq.{drop-cons}

-- what is left begins with the element at i
pub at_cons : (s : List ℕ) (i : ℕ) → i < length s → drop i s ≡ get_or s i 0 ∷ drop (i + 1) s
at_cons s i h = rw (add-one, drop-cons s i 0)

-- past the end nothing is left
pub at_end_lem : (s : List ℕ) (i : ℕ) → length s ≤ i → drop i s ≡ []
at_end_lem s i h = drop_of_length-le s h
