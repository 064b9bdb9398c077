-- The laws of what stands before the zeros at the end.
use mathlib.Core.Path.{◌≡◌, refl, sym, ap, ap₂, ◌∙◌}
use mathlib.Core.List.{List, [], ◌∷◌, ◌++◌, append_assoc, append-nil}
use Prim.Native.Nat.{ℕ, zero, suc, ◌+◌, ◌≤◌, ◌<◌}
use native.Mathlib.Numerals.{add-one}
use native.Mathlib.Omega.{arith}
use lib.ListN.{length, get_or, take, drop, length-drop}
use lib.Seq.{take-suc}
use Rattle.std.proofs.lemmas.List.{get_or-drop, take-append-drop}
use Rattle.base.specs.Lists.{zeros}
use Rattle.meaning.specs.Records.{joined}
use Rattle.printed.specs.Printed.{on_bare, bare}

-- a zero at the end doesn't count
bare_zero : (s : List ℕ) → bare (s ++ 0 ∷ []) ≡ bare s
unfolding bare on_bare
bare_zero [] = refl
bare_zero (x ∷ s) = ap (on_bare x) (bare_zero s)

-- so many zeros don't
pub bare_zeros : (s : List ℕ) (n : ℕ) → bare (s ++ zeros n) ≡ bare s
unfolding zeros
bare_zeros s zero = ap bare (append-nil s)
bare_zeros s (suc n) = ap bare (sym (append_assoc s (0 ∷ []) (zeros n))) ∙ bare_zeros (s ++ 0 ∷ []) n ∙ bare_zero s

-- nothing before a byte that is no zero is left out
pub bare_kept : (s t : List ℕ) (y : ℕ) → bare (s ++ (suc y ∷ t)) ≡ s ++ (suc y ∷ bare t)
unfolding bare on_bare
bare_kept [] t y = refl
bare_kept (x ∷ s) t y = ap (on_bare x) (bare_kept s t y) ∙ keeps x s
  where
    keeps : (x : ℕ) (s : List ℕ) → on_bare x (s ++ (suc y ∷ bare t)) ≡ x ∷ (s ++ (suc y ∷ bare t))
    keeps zero [] = refl
    keeps zero (z ∷ s) = refl
    keeps (suc x) s = refl

-- lines end in LF, so they stay whole
pub bare_joined : (ts : List (List ℕ)) → bare (joined ts) ≡ joined ts
unfolding joined bare on_bare
bare_joined [] = refl
bare_joined (t ∷ ts) = bare_kept t (10 ∷ joined ts) 12 ∙ ap (λ l. t ++ (13 ∷ 10 ∷ l)) (bare_joined ts)

-- ---- the last byte that is no zero

-- bytes that are zeros
all_zeros : (s : List ℕ) → ((k : ℕ) → k < length s → get_or s k 0 ≡ 0) → s ≡ zeros (length s)
unfolding zeros
all_zeros [] z = refl
all_zeros (x ∷ s) z = ap₂ (λ y l. y ∷ l) (z 0 (omega arith)) (all_zeros s (λ k h. z (suc k) (omega arith)))

-- all before the last and it itself stand
pub bare_last : (s : List ℕ) (i : ℕ) → i < length s → (get_or s i 0 ≡ 0 → ⊥) → ((k : ℕ) → i + 1 ≤ k → k < length s → get_or s k 0 ≡ 0) → take (i + 1) s ≡ bare s
unfolding bare
bare_last s i h n z =
    let after : drop (i + 1) s ≡ zeros (length (drop (i + 1) s)) = all_zeros (drop (i + 1) s) (λ k l. get_or-drop (i + 1) s k 0 ∙ z (i + 1 + k) (omega arith) (omega (arith, length-drop (i + 1) s))) in
    let front : take (i + 1) s ≡ take i s ++ (get_or s i 0 ∷ []) = rw add-one (take-suc s i 0 h) in
    sym (ap bare (sym (take-append-drop (i + 1) s) ∙ ap (λ l. take (i + 1) s ++ l) after) ∙ bare_zeros (take (i + 1) s) (length (drop (i + 1) s)) ∙ ap bare front ∙ kept (get_or s i 0) n ∙ sym front)
  where
    kept : (x : ℕ) → (x ≡ 0 → ⊥) → bare (take i s ++ (x ∷ [])) ≡ take i s ++ (x ∷ [])
    kept zero f = absurd (f refl)
    kept (suc x) f = bare_kept (take i s) [] x

-- where there is none, nothing stands
pub bare_nothing : (s : List ℕ) → ((k : ℕ) → k < length s → get_or s k 0 ≡ 0) → bare s ≡ []
unfolding bare
bare_nothing s z = ap bare (all_zeros s z) ∙ bare_zeros [] (length s)
