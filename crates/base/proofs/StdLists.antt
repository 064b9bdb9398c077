-- This repository's words on lists, as std's functions have them: for what iterators and slices answer.
use mathlib.Core.Path.{◌≡◌, refl, sym, ap, ◌∙◌}
use mathlib.Core.Bool.{Bool, true, false, not, cond}
use mathlib.Core.List.{List, [], ◌∷◌}
use Prim.Native.Nat.{ℕ, suc, ◌+◌, ◌≤◌}
use native.Mathlib.Omega.{arith}
use lib.Dec.{eqb}
use lib.ListN.{length, take, drop}
use lib.Pointwise.{pointwise}
use Rattle.std.specs.Prelude.{Option, Some, None, unwrap_or, position}
use Rattle.std.specs.List.{list_all, list_any, position_or_len, FoldsTo}
use Rattle.std.specs.Fn.{Called}
use Rattle.std.specs.Iterator.{YieldsThen}
use Rattle.std.specs.Option.{MatchOption}
use Rattle.std.specs.Slice.Iter.{iter_rest}
use Rattle.std.specs.declared.slice.Iter.{Iter}
use denote.Param.Members.{Mut}
use denote.Ref.{Bor}
use Rattle.std.proofs.iter.Yields.{fronts}
use Rattle.std.proofs.lemmas.Iterator.{YieldsList-from_slice}
use Rattle.std.proofs.lemmas.Iterator.Search.{all_from_yields_List, any_from_yields_List, position_from_yields_List}
use Rattle.base.proofs.StdPositions.{position_within, position_end}
use Rattle.base.specs.Lists.{all, pick, same, up_to, past}

-- each element passes: `all`
pub all_list_all : {A : Type 0} (p : A → Bool) (l : List A) → all p l ≡ list_all p l
all_list_all p [] = refl
all_list_all p (x ∷ l) = rw (all_list_all p l)

-- the same from its answer r
pub all_told : {A : Type 0} (p : A → Bool) (l : List A) (r : Bool) → r ≡ list_all p l → r ≡ all p l
all_told p l r e = e ∙ sym (all_list_all p l)

-- runs that are the same: `==`
pub same_pointwise : (a b : List ℕ) → same a b ≡ pointwise eqb a b
unfolding same
same_pointwise [] [] = refl
same_pointwise [] (y ∷ b) = refl
same_pointwise (x ∷ a) [] = refl
same_pointwise (x ∷ a) (y ∷ b) = rw (same_pointwise a b)

-- the same from its answer r
pub same_told : (a b : List ℕ) (r : Bool) → r ≡ pointwise eqb a b → r ≡ same a b
same_told a b r e = e ∙ sym (same_pointwise a b)

-- how many bytes stand before the first x: `position`, or the length where there is none
pub up_to_length : (x : ℕ) (l : List ℕ) → length (up_to x l) ≡ position_or_len (λ y. eqb y x) l
unfolding up_to
up_to_length x [] = refl
up_to_length x (y ∷ l) = go (eqb y x) (up_to_length x l)
  where
    go : (b : Bool) → length (up_to x l) ≡ position_or_len (λ y. eqb y x) l → length (pick b [] (y ∷ up_to x l)) ≡ cond (not b) (1 + position_or_len (λ y. eqb y x) l) 0
    go true e = refl
    go false e = let z : 1 + position_or_len (λ y. eqb y x) l ≡ suc (position_or_len (λ y. eqb y x) l) = omega arith in rw z (ap suc e)

-- which bytes
pub up_to_take : (x : ℕ) (l : List ℕ) → up_to x l ≡ take (position_or_len (λ y. eqb y x) l) l
unfolding up_to
up_to_take x [] = refl
up_to_take x (y ∷ l) = go (eqb y x) (up_to_take x l)
  where
    go : (b : Bool) → up_to x l ≡ take (position_or_len (λ y. eqb y x) l) l → pick b [] (y ∷ up_to x l) ≡ take (cond (not b) (1 + position_or_len (λ y. eqb y x) l) 0) (y ∷ l)
    go true e = refl
    go false e =
        let z : 1 + position_or_len (λ y. eqb y x) l ≡ suc (position_or_len (λ y. eqb y x) l) = omega arith in rw z (ap (λ (t : List ℕ). y ∷ t) e)

-- the bytes after it
pub past_drop : (x : ℕ) (l : List ℕ) → past x l ≡ drop (suc (position_or_len (λ y. eqb y x) l)) l
unfolding past
past_drop x [] = refl
past_drop x (y ∷ l) = go (eqb y x) (past_drop x l)
  where
    go : (b : Bool) → past x l ≡ drop (suc (position_or_len (λ y. eqb y x) l)) l → pick b l (past x l) ≡ drop (suc (cond (not b) (1 + position_or_len (λ y. eqb y x) l) 0)) (y ∷ l)
    go true e = refl
    go false e = let z : 1 + position_or_len (λ y. eqb y x) l ≡ suc (position_or_len (λ y. eqb y x) l) = omega arith in rw z e

-- no more than there are
pub up_to_within : (x : ℕ) (l : List ℕ) → length (up_to x l) ≤ length l
up_to_within x l = rw (up_to_length x l) (position_within (λ y. eqb y x) l)

-- the same from the answer o of `position` and r of its `unwrap_or` at the length
pub up_to_told : (x : ℕ) (l : List ℕ) (o : Option ℕ) (r : ℕ) → o ≡ position (λ y. eqb y x) l → r ≡ unwrap_or o (length l) → r ≡ length (up_to x l)
up_to_told x l o r e q = position_end (λ y. eqb y x) l o r e q ∙ sym (up_to_length x l)

-- ---- what `all`, `any` and `position` answer over the bytes of a slice, by what their closure answers of each

-- the closure f asks p
abbrev pub Asks : {F : Type 0} → Mut F (Bor ℕ × Unit {0}) Bool → F → (ℕ → Bool) → Type 0
Asks {F} g f p = (x : Bor ℕ) (b : Bool) (q : F) → Called g f (x, tt) b q → (q ≡ f) × (b ≡ p x.now)

module _ {F : Type 0} {g : Mut F (Bor ℕ × Unit {0}) Bool} {s u : Iter ℕ} (p : ℕ → Bool) (l : List ℕ) (f : F) where
  -- `all`
  pub all_of_slice :
      (r : Bool)
      → (xs : List (Bor ℕ)) × (o : Option (Bor ℕ)) × (j : F) × YieldsThen fronts s xs o u × FoldsTo (λ c x q. Called g c (x, tt) true q) f xs j × MatchOption o (r ≡ true) (λ x. (r ≡ false) × ((h : F) × Called g j (x, tt) false h))
      → iter_rest s ≡ l → Asks g f p → r ≡ all p l
  all_of_slice r ran e k = all_told p l r (all_from_yields_List p u f r ran (YieldsList-from_slice l e) k)

  -- `any`
  pub any_of_slice :
      (r : Bool)
      → (xs : List (Bor ℕ)) × (o : Option (Bor ℕ)) × (j : F) × YieldsThen fronts s xs o u × FoldsTo (λ c x q. Called g c (x, tt) false q) f xs j × MatchOption o (r ≡ false) (λ x. (r ≡ true) × ((h : F) × Called g j (x, tt) true h))
      → iter_rest s ≡ l → Asks g f p → r ≡ list_any p l
  any_of_slice r ran e k = any_from_yields_List p u f r ran (YieldsList-from_slice l e) k

  -- `position`
  pub position_of_slice :
      (r : Option ℕ)
      → (xs : List (Bor ℕ)) × (o : Option (Bor ℕ)) × (j : F) × YieldsThen fronts s xs o u × FoldsTo (λ c x q. Called g c (x, tt) false q) f xs j × MatchOption o (r ≡ None) (λ x. (r ≡ Some (length xs)) × ((h : F) × Called g j (x, tt) true h))
      → iter_rest s ≡ l → Asks g f p → r ≡ position p l
  position_of_slice r ran e k = position_from_yields_List p u f r ran (YieldsList-from_slice l e) k
