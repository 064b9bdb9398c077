-- The laws of the tail of a slice from an index on, by which a `for` over `s[at..]` goes.
use mathlib.Core.Path.{◌≡◌}
use mathlib.Core.List.{List}
use Prim.Native.Nat.{ℕ, ◌+◌, ◌-◌, ◌≤◌, ◌<◌}
use native.Mathlib.Omega.{arith}
use lib.ListN.{length, get_or, drop, take, length-drop}
use lib.Seq.{take_all}
use Rattle.std.proofs.lemmas.List.{get_or-drop}

-- the bytes from `at` on, as `s[at..]` has them
abbrev pub tail : List ℕ → ℕ → List ℕ
tail s at = take (length s - at) (drop at s)

tail_is : (s : List ℕ) (at : ℕ) → tail s at ≡ drop at s
tail_is s at = take_all (length s - at) (drop at s) (omega (arith, length-drop at s))

-- how many there are
tail_length : (s : List ℕ) (at : ℕ) → length (tail s at) ≡ length s - at
tail_length s at = rw (tail_is s at) (length-drop at s)

-- an index within them is one within the slice
pub tail_below : (s : List ℕ) (at i : ℕ) → i < length (tail s at) → at + i < length s
tail_below s at i h = omega (arith, tail_length s at)

-- with the same byte
pub tail_or : (s : List ℕ) (at i : ℕ) → get_or (tail s at) i 0 ≡ get_or s (at + i) 0
tail_or s at i = rw (tail_is s at) (get_or-drop at s i 0)

-- their end is the slice's
pub tail_end : (s : List ℕ) (at i : ℕ) → at ≤ length s → length (tail s at) ≤ i → i ≤ length (tail s at) → at + i ≡ length s
tail_end s at i h k l = omega (arith, tail_length s at)
