-- The bytes from one place up to another.
use mathlib.Core.Path.{◌≡◌, ◌∙◌}
use mathlib.Core.List.{List, [], ◌∷◌, ◌++◌}
use Prim.Native.Nat.{ℕ, ◌+◌, ◌-◌, ◌≤◌, ◌<◌}
use native.Mathlib.Omega.{arith}
use lib.ListN.{length, get_or, drop, length-drop}
use lib.Seq.{take-add, drop-drop, length-take-le}
use Rattle.base.proofs.Walk.{at_cons}
use Rattle.words.specs.Words.{upto}

-- first those up to a place between, then the others
pub upto_then : (s : List ℕ) (at i e : ℕ) → at ≤ i → i ≤ e → upto s at e ≡ upto s at i ++ upto s i e
upto_then s at i e h k =
    let n : e - at ≡ (i - at) + (e - i) = omega arith in
    let m : at + (i - at) ≡ i = omega arith in
    rw (n, take-add (i - at) (e - i) (drop at s), drop-drop (i - at) at s, m)

-- one byte
pub upto_one : (s : List ℕ) (e : ℕ) → e < length s → upto s e (e + 1) ≡ get_or s e 0 ∷ []
upto_one s e h = let n : e + 1 - e ≡ 1 = omega arith in rw (n, at_cons s e h)

-- the first byte, then the others
pub upto_first : (s : List ℕ) (at e : ℕ) → at < e → at < length s → upto s at e ≡ get_or s at 0 ∷ upto s (at + 1) e
upto_first s at e h k = upto_then s at (at + 1) e (omega arith) (omega arith) ∙ rw (upto_one s at k)

-- as many as there are
pub upto_length : (s : List ℕ) (at e : ℕ) → e ≤ length s → length (upto s at e) ≡ e - at
upto_length s at e h = length-take-le (e - at) (drop at s) (simp length-drop (omega arith))
