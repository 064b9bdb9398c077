-- The laws of what an array says: which record stands at an index, and what an entry more, another or one less makes of the records.
use mathlib.Core.Path.{◌≡◌, refl, sym, ap, ◌∙◌}
use mathlib.Core.Option.{none, some}
use mathlib.Core.List.{List, [], ◌∷◌, ◌++◌, map, map-append}
use Prim.Native.Nat.{ℕ, zero, suc, ◌+◌, ◌-◌, ◌%◌, ◌≤◌, ◌<◌}
use native.Mathlib.Omega.{arith}
use native.Mathlib.Numerals.{add-one}
use native.Mathlib.Nat.{add-zero, sub-zero, zero-sub, suc-sub-suc}
use lib.Dec.{T, eqb, eqb→eq}
use lib.ListN.{length, get_or, take, drop, set, length-drop, length-map, take-append-drop}
use lib.Seq.{drop-cons, length-take-le, get_or-take, take-take, set_split, take_at, take-append-add, take-set-lt, take-suc-set, take-nil}
use Rattle.base.specs.Lists.{all}
use Rattle.base.specs.Tests.{and_l, and_r}
use Rattle.theory.specs.Store.{get, put}
use Rattle.theory.specs.Rank.{rank}
use Rattle.theory.proofs.RankLaws.{put_at}
use Rattle.meaning.specs.Records.{Rec}
use Rattle.keys.specs.Numbers.{numbered}
use Rattle.entries.specs.Entries.{record_of}
use Rattle.entries.proofs.EntryLaws.{held_any}
use Rattle.places.specs.Places.{says, opened, closed}

-- ---- lists

-- the first of a list are mapped as the list is
pub map_take : {A B : Type 0} (g : A → B) (n : ℕ) (l : List A) → map g (take n l) ≡ take n (map g l)
map_take g zero l = refl
map_take g (suc n) [] = refl
map_take g (suc n) (x ∷ l) = ap (λ t. g x ∷ t) (map_take g n l)

-- and so is what is left after them
pub map_drop : {A B : Type 0} (g : A → B) (n : ℕ) (l : List A) → map g (drop n l) ≡ drop n (map g l)
map_drop g zero l = refl
map_drop g (suc n) [] = refl
map_drop g (suc n) (x ∷ l) = map_drop g n l

-- what is left of the first n
pub drop_take : {A : Type 0} (c n : ℕ) (s : List A) → drop c (take n s) ≡ take (n - c) (drop c s)
drop_take zero n s = rw sub-zero
drop_take (suc c) n [] = rw (take-nil n, take-nil (n - suc c))
drop_take (suc c) zero (x ∷ s) = rw (zero-sub (suc c))
drop_take (suc c) (suc n) (x ∷ s) = rw suc-sub-suc (drop_take c n s)

-- ---- what the first n entries say

-- entries of the holding alone say the same beside every file
pub says_held : (h f g a : List ℕ) (n : ℕ) → T (all (λ v. eqb (v % 2) 0) (take n a)) → says h f a n ≡ says h g a n
unfolding says
says_held h f g a n t = go (take n a) t
  where
    go : (l : List ℕ) → T (all (λ v. eqb (v % 2) 0) l) → map (record_of h f) l ≡ map (record_of h g) l
    go [] t = refl
    go (v ∷ l) t = rw (held_any h f g v (eqb→eq (v % 2) 0 (and_l (eqb (v % 2) 0) _ t)), go l (and_r (eqb (v % 2) 0) _ t))

module _ (h f a : List ℕ) (n : ℕ) (l : n ≤ length a) where
  -- they are n records
  pub length_says : length (says h f a n) ≡ n
  unfolding says
  length_says = length-map (take n a) (record_of h f) ∙ length-take-le n a l

  -- what is left at i is the record of entry i and what is left after it
  pub says_at : (i : ℕ) → i < n → drop i (says h f a n) ≡ record_of h f (get_or a i 0) ∷ drop (suc i) (says h f a n)
  unfolding says
  says_at i g =
      sym (map_drop (record_of h f) i (take n a))
      ∙ ap (map (record_of h f)) (drop-cons (take n a) i 0 (omega (arith, length-take-le n a l)))
      ∙ rw (get_or-take n a i 0 g) (ap (λ t. record_of h f (get_or a i 0) ∷ t) (map_drop (record_of h f) (suc i) (take n a)))

  -- the record of entry i stands after those of the entries before it
  pub says_split : (i : ℕ) → i < n → says h f a n ≡ take i (says h f a n) ++ (record_of h f (get_or a i 0) ∷ drop (suc i) (says h f a n))
  says_split i g = sym (take-append-drop i (says h f a n)) ∙ ap (λ t. take i (says h f a n) ++ t) (says_at i g)

-- one entry more after them says its record after theirs
pub says_more : (h f a : List ℕ) (n v : ℕ) → n < length a → says h f (set a n v) (n + 1) ≡ says h f a n ++ (record_of h f v ∷ [])
unfolding says
says_more h f a n v l = rw (add-one n, take-suc-set a n v l, map-append)

-- ---- an entry more, another, one less

-- the first n + 1 elements once room is made
pub open_take : (a : List ℕ) (n i v : ℕ) → i ≤ n → n < length a → take (n + 1) (opened a n i v) ≡ take i a ++ (v ∷ take (n - i) (drop i a))
unfolding opened
open_take a n i v m l =
    let b : length (take i a) ≡ i = length-take-le i a (omega arith) in
    let c : length (take (n - i) (drop i a)) ≡ n - i = length-take-le (n - i) (drop i a) (omega (arith, length-drop i a)) in
    let q : n + 1 ≡ length (take i a) + suc (n - i) = omega arith in
    ap (λ z. take z (take i a ++ (v ∷ (take (n - i) (drop i a) ++ drop (n + 1) a)))) q
    ∙ take-append-add (take i a) (v ∷ (take (n - i) (drop i a) ++ drop (n + 1) a)) (suc (n - i))
    ∙ ap (λ t. take i a ++ (v ∷ t)) (take_at (take (n - i) (drop i a)) (drop (n + 1) a) (n - i) c)

-- the first n - 1 once closed up
pub close_take : (a : List ℕ) (n i : ℕ) → i < n → n ≤ length a → take (n - 1) (closed a n i) ≡ take i a ++ take (n - (i + 1)) (drop (i + 1) a)
unfolding closed
close_take a n i m l =
    let b : length (take i a) ≡ i = length-take-le i a (omega arith) in
    let c : length (take (n - (i + 1)) (drop (i + 1) a)) ≡ n - (i + 1) = length-take-le (n - (i + 1)) (drop (i + 1) a) (omega (arith, length-drop (i + 1) a)) in
    let q : n - 1 ≡ length (take i a) + (n - (i + 1)) = omega arith in
    ap (λ z. take z (take i a ++ (take (n - (i + 1)) (drop (i + 1) a) ++ drop (n - 1) a))) q
    ∙ take-append-add (take i a) (take (n - (i + 1)) (drop (i + 1) a) ++ drop (n - 1) a) (n - (i + 1))
    ∙ ap (λ t. take i a ++ t) (take_at (take (n - (i + 1)) (drop (i + 1) a)) (drop (n - 1) a) (n - (i + 1)) c)

module _ (h f a k : List ℕ) (n i : ℕ) (r : i ≡ rank numbered k (says h f a n)) where
  -- where the key stands nowhere, room made at its place for v puts the record of v there
  pub put_says : (v : ℕ) → n < length a → i ≤ n → get numbered k (says h f a n) ≡ none → says h f (opened a n i v) (n + 1) ≡ put numbered k (some (record_of h f v)) (says h f a n)
  unfolding says
  put_says v l m e =
      ap (map (record_of h f)) (open_take a n i v m l)
      ∙ map-append (record_of h f) (take i a) (v ∷ take (n - i) (drop i a))
      ∙ sym (put_at numbered k (some (record_of h f v)) (map (record_of h f) (take n a)) ∙ rw (e, ← r, add-zero i, ← map_take (record_of h f) i (take n a), ← map_drop (record_of h f) i (take n a), take-take i n a m, drop_take i n a))

  module _ (q : Rec) (l : n ≤ length a) (m : i < n) (e : get numbered k (says h f a n) ≡ some q) where
    -- where it stands, v in its place puts the record of v there
    pub set_says : (v : ℕ) → says h f (set a i v) n ≡ put numbered k (some (record_of h f v)) (says h f a n)
    unfolding says
    set_says v =
        ap (map (record_of h f)) (take-set-lt n a i v m ∙ set_split (take n a) i v (omega (arith, length-take-le n a l)))
        ∙ map-append (record_of h f) (take i (take n a)) (v ∷ drop (suc i) (take n a))
        ∙ sym (put_at numbered k (some (record_of h f v)) (map (record_of h f) (take n a)) ∙ rw (e, ← r, add-one i, ← map_take (record_of h f) i (take n a), ← map_drop (record_of h f) (suc i) (take n a)))

    -- and closed up over it, the array says no record there
    pub close_says : says h f (closed a n i) (n - 1) ≡ put numbered k none (says h f a n)
    unfolding says
    close_says =
        ap (map (record_of h f)) (close_take a n i m l)
        ∙ map-append (record_of h f) (take i a) (take (n - (i + 1)) (drop (i + 1) a))
        ∙ sym (put_at numbered k none (map (record_of h f) (take n a)) ∙ rw (e, ← r, ← map_take (record_of h f) i (take n a), ← map_drop (record_of h f) (i + 1) (take n a), take-take i n a (omega arith), drop_take (i + 1) n a))
