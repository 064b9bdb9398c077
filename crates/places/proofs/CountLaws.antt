-- The laws of counts of references, over lists: what is counted in or out, and what a record more, another or one less makes of them.
use mathlib.Core.Path.{◌≡◌, refl, sym, ap, ap₂, subst, ◌∙◌}
use mathlib.Core.Bool.{Bool, true, false, ◌&&◌}
use mathlib.Core.Option.{Option, none, some}
use mathlib.Core.List.{List, [], ◌∷◌, ◌++◌, map-append}
use Prim.Native.Nat.{ℕ, zero, suc, ◌+◌, ◌-◌, ◌*◌, ◌≤◌, ◌<◌}
use native.Mathlib.Omega.{arith}
use native.Mathlib.Nat.{add-zero}
use borrow.Author.Tests.{ne_eqb}
use lib.Dec.{T, eqb}
use lib.ListN.{length, get_or, take, drop, set, length-set}
use lib.Seq.{get_or-take, take-take, take-set-lt}
use Rattle.base.specs.Lists.{all, some?, pick, zeros}
use Rattle.base.specs.ListLaws.{all_map}
use Rattle.base.specs.Tests.{and_l, and_r, some≢none}
use Rattle.theory.specs.Tri.{Tri, lt, eq, gt}
use Rattle.theory.specs.Lex.{lex}
use Rattle.theory.specs.LexLaws.{lex_order}
use Rattle.theory.specs.Fold.{sum?}
use Rattle.theory.proofs.FoldLaws.{sum_put}
use Rattle.theory.specs.Store.{cons?, put, puts, get, gets, Low, Asc}
use Rattle.theory.proofs.StoreLaws.{low_down, low_same}
use Rattle.theory.specs.Rank.{rank, ranks}
use Rattle.theory.proofs.RankLaws.{put_at}
use Rattle.theory.specs.Refs.{apart, has, meets, clear}
use Rattle.theory.proofs.RefsLaws.{by_key_lem}
use Rattle.meaning.specs.Records.{Rec}
use Rattle.keys.specs.Numbers.{key_numbers, ref_numbers, ref_at, numbered}
use Rattle.keys.proofs.KeyLaws.{refs_are}
use Rattle.places.specs.Places.{opened, closed}
use Rattle.places.specs.Counts.{once, times, refers, tally, by_key, moved, noted, noted_all, Open}
use Rattle.places.proofs.SaysLaws.{map_take, map_drop, drop_take, open_take, close_take}

-- ---- one, several, a record's, all

-- a key is itself once
once_same : (k : List ℕ) → once k k ≡ 1
unfolding once apart
once_same k = rw (lex_order.same k)

-- a key before another is not that
once_before : (j k : List ℕ) → lex j k ≡ lt → once j k ≡ 0
unfolding once apart
once_before j k e = rw e

-- nor is one after it
once_after : (j k : List ℕ) → lex j k ≡ gt → once j k ≡ 0
unfolding once apart
once_after j k e = rw e

once_few : (j k : List ℕ) → once j k ≤ 1
unfolding once
once_few j k = go (apart numbered j k)
  where
    go : (b : Bool) → pick {A = ℕ} b 0 1 ≤ 1
    go true = omega arith
    go false = omega arith

times_few : (k : List ℕ) (js : List (List ℕ)) → times k js ≤ length js
unfolding times
times_few k [] = omega arith
times_few k (j ∷ js) = omega (arith, once_few j k, times_few k js)

-- a record refers to two keys at most
pub refs_few : (r : Rec) → length (ref_numbers r) ≤ 2
refs_few r = rw (refs_are r) (go (ref_at r.kind r.content 0) (ref_at r.kind r.content 1))
  where
    go : (o p : Option (List ℕ)) → length (cons? o (cons? p [])) ≤ 2
    go none none = omega arith
    go none (some k) = omega arith
    go (some j) none = omega arith
    go (some j) (some k) = omega arith

-- no key is referred to more than twice by each record
pub tally_few : (st : List Rec) (k : List ℕ) → tally st k ≤ 2 * length st
unfolding tally refers
tally_few [] k = omega arith
tally_few (r ∷ st) k = omega (arith, tally_few st k, times_few k (ref_numbers r), refs_few r)

none_times : (k : List ℕ) (js : List (List ℕ)) → all (λ j. apart numbered j k) js ≡ eqb (times k js) 0
unfolding times once
none_times k [] = refl
none_times k (j ∷ js) = go (apart numbered j k) (none_times k js)
  where
    go : (b : Bool) → all (λ j. apart numbered j k) js ≡ eqb (times k js) 0 → (b && all (λ j. apart numbered j k) js) ≡ eqb (pick b 0 1 + times k js) 0
    go true i = i ∙ ap (λ n. eqb n 0) {x = times k js} {y = 0 + times k js} (omega arith)
    go false i = sym (ne_eqb (1 + times k js) 0 (λ e. omega arith))

-- no record refers to a key just where the count is 0
pub clear_tally : (k : List ℕ) (st : List Rec) → all (clear numbered ref_numbers k) st ≡ eqb (tally st k) 0
unfolding clear tally refers
clear_tally k [] = refl
clear_tally k (x ∷ xs) = go (times k (ref_numbers x)) (none_times k (ref_numbers x)) (clear_tally k xs)
  where
    go : (n : ℕ) → all (λ j. apart numbered j k) (ref_numbers x) ≡ eqb n 0 → all (clear numbered ref_numbers k) xs ≡ eqb (tally xs k) 0
        → (all (λ j. apart numbered j k) (ref_numbers x) && all (clear numbered ref_numbers k) xs) ≡ eqb (n + tally xs k) 0
    go zero e i = rw e (i ∙ ap (λ n. eqb n 0) {x = tally xs k} {y = 0 + tally xs k} (omega arith))
    go (suc n) e i = rw (e, ne_eqb (suc n) 0 (λ z. omega arith)) (sym (ne_eqb (suc n + tally xs k) 0 (λ z. omega arith)))

-- a record put adds its references and takes those of the record that stood there away
pub tally_put : (j k : List ℕ) (o : Option Rec) (st : List Rec) → tally (put numbered j o st) k + sum? (refers k) (get numbered j st) ≡ tally st k + sum? (refers k) o
unfolding tally
tally_put j k o st = sum_put numbered (refers k) j o st

-- a record more at the end adds its own
pub tally_more : (st : List Rec) (x : Rec) (k : List ℕ) → tally (st ++ (x ∷ [])) k ≡ tally st k + refers k x
unfolding tally
tally_more [] x k = omega arith
tally_more (r ∷ st) x k = omega (arith, tally_more st x k)

-- where all references are met, none is to a key that stands nowhere
pub tally_absent : (st : List Rec) (k : List ℕ) → T (all (meets numbered ref_numbers st) st) → get numbered k st ≡ none → tally st k ≡ 0
unfolding meets has clear
tally_absent st k m e =
    zero_told (tally st k) (subst T (clear_tally k st) (all_map (meets numbered ref_numbers st) (clear numbered ref_numbers k) (λ r. all_map _ _ (λ j t. other j (and_r (apart numbered j (key_numbers r)) _ t)) (ref_numbers r)) st m))
  where
    other : (j : List ℕ) → T (some? (get numbered j st)) → T (apart numbered j k)
    other j t = by_key_lem numbered j k (λ q. absurd (rw (q, e) at t)) (λ d. d)

    zero_told : (n : ℕ) → T (eqb n 0) → n ≡ 0
    zero_told zero t = refl
    zero_told (suc n) t = absurd (subst T (ne_eqb (suc n) 0 (λ z. omega arith)) t)

-- ---- numbers beside records

-- numbers that are equal for each key are equal beside records
pub by_cong : (w v : List ℕ → ℕ) → ((k : List ℕ) → w k ≡ v k) → (st : List Rec) → by_key w st ≡ by_key v st
by_cong w v f [] = refl
by_cong w v f (r ∷ st) = ap₂ (λ x y. x ∷ y) (f (key_numbers r)) (by_cong w v f st)

-- nothing refers, at first
pub by_nothing : (st : List Rec) → by_key (tally []) st ≡ zeros (length st)
unfolding tally zeros
by_nothing [] = refl
by_nothing (r ∷ st) = ap (λ l. 0 ∷ l) (by_nothing st)

rank_has : (k : List ℕ) (st : List Rec) → T (has numbered st k) → rank numbered k st < length st
unfolding has get gets rank ranks
rank_has k [] t = absurd t
rank_has k (x ∷ xs) t = go (lex k (key_numbers x)) t (rank_has k xs)
  where
    go : (c : Tri) → T (some? (gets numbered c x (get numbered k xs))) → (T (some? (get numbered k xs)) → rank numbered k xs < length xs) → ranks numbered c (rank numbered k xs) < suc (length xs)
    go lt t f = absurd t
    go eq t f = omega arith
    go gt t f = omega (arith, f t)

-- the number at the place of a key that stands is the key's
by_at : (w : List ℕ → ℕ) (k : List ℕ) (st : List Rec) → T (has numbered st k) → get_or (by_key w st) (rank numbered k st) 0 ≡ w k
unfolding has get gets rank ranks
by_at w k [] t = absurd t
by_at w k (x ∷ xs) t = go (lex k (key_numbers x)) refl t (by_at w k xs)
  where
    go : (c : Tri) → lex k (key_numbers x) ≡ c → T (some? (gets numbered c x (get numbered k xs))) → (T (some? (get numbered k xs)) → get_or (by_key w xs) (rank numbered k xs) 0 ≡ w k)
        → get_or (by_key w (x ∷ xs)) (ranks numbered c (rank numbered k xs)) 0 ≡ w k
    go lt e t f = absurd t
    go eq e t f = ap w (sym (lex_order.equal k (key_numbers x) e))
    go gt e t f = f t

moved_none : (up : Bool) (c : ℕ) → moved up 0 c ≡ c
unfolding moved
moved_none true c = omega arith
moved_none false c = omega arith

moved_both : (up : Bool) (m n c : ℕ) → moved up n (moved up m c) ≡ moved up (m + n) c
unfolding moved
moved_both true m n c = omega arith
moved_both false m n c = omega arith

-- the numbers of other keys stay
by_others : (up : Bool) (w : List ℕ → ℕ) (k : List ℕ) (st : List Rec) → Low numbered k st → Asc numbered st → by_key w st ≡ by_key (λ j. moved up (once k j) (w j)) st
by_others up w k [] l a = refl
by_others up w k (x ∷ xs) l a =
    ap₂ (λ y z. y ∷ z) (sym (ap (λ m. moved up m (w (key_numbers x))) (once_before k (key_numbers x) l) ∙ moved_none up (w (key_numbers x))))
    (by_others up w k xs (low_down numbered k (key_numbers x) xs l a.0) a.1)

-- one number moved, at the place of its key
by_one : (up : Bool) (w : List ℕ → ℕ) (k : List ℕ) (st : List Rec) → Asc numbered st → T (has numbered st k) → set (by_key w st) (rank numbered k st) (moved up 1 (w k)) ≡ by_key (λ j. moved up (once k j) (w j)) st
unfolding has get gets rank ranks
by_one up w k [] a t = absurd t
by_one up w k (x ∷ xs) a t = go (lex k (key_numbers x)) refl t (by_one up w k xs a.1)
  where
    go : (c : Tri) → lex k (key_numbers x) ≡ c → T (some? (gets numbered c x (get numbered k xs)))
        → (T (some? (get numbered k xs)) → set (by_key w xs) (rank numbered k xs) (moved up 1 (w k)) ≡ by_key (λ j. moved up (once k j) (w j)) xs)
        → set (by_key w (x ∷ xs)) (ranks numbered c (rank numbered k xs)) (moved up 1 (w k)) ≡ by_key (λ j. moved up (once k j) (w j)) (x ∷ xs)
    go lt e t f = absurd t
    go eq e t f =
        let q : k ≡ key_numbers x = lex_order.equal k (key_numbers x) e in
        ap₂ (λ y z. y ∷ z) (sym (ap (λ j. moved up (once k j) (w j)) (sym q) ∙ ap (λ m. moved up m (w k)) (once_same k)))
        (by_others up w k xs (low_same numbered k x xs e a.0) a.1)
    go gt e t f = ap₂ (λ y z. y ∷ z) (sym (ap (λ m. moved up m (w (key_numbers x))) (once_after k (key_numbers x) e) ∙ moved_none up (w (key_numbers x)))) (f t)

-- ---- counts beside records

module _ (st : List Rec) (a : Asc numbered st) (n : ℕ) (l : n ≡ length st) (up : Bool) where
  module _ (w : List ℕ → ℕ) (t : List ℕ) (e : take n t ≡ by_key w st) (k : List ℕ) (s : T (has numbered st k)) where
    within : rank numbered k st < n
    within = omega (arith, rank_has k st s)

    -- the count at the place of a key that stands
    pub count_at_lem : get_or t (rank numbered k st) 0 ≡ w k
    count_at_lem = sym (get_or-take n t (rank numbered k st) 0 within) ∙ ap (λ x. get_or x (rank numbered k st) 0) e ∙ by_at w k st s

    -- one reference counted
    pub count_one : take n (noted up st t k) ≡ by_key (λ j. moved up (once k j) (w j)) st
    unfolding noted
    count_one = take-set-lt n t (rank numbered k st) (moved up 1 (get_or t (rank numbered k st) 0)) within ∙ rw (e, count_at_lem) (by_one up w k st a s)

  -- several
  pub count_all : (ks : List (List ℕ)) → T (all (has numbered st) ks) → (w : List ℕ → ℕ) (t : List ℕ) → take n t ≡ by_key w st → take n (noted_all up st t ks) ≡ by_key (λ j. moved up (times j ks) (w j)) st
  unfolding noted_all times
  count_all [] s w t e = e ∙ by_cong w (λ j. moved up 0 (w j)) (λ j. sym (moved_none up (w j))) st
  count_all (k ∷ ks) s w t e =
      count_all ks (and_r (has numbered st k) _ s) (λ j. moved up (once k j) (w j)) (noted up st t k) (count_one w t e k (and_l (has numbered st k) _ s))
      ∙ by_cong (λ j. moved up (times j ks) (moved up (once k j) (w j))) (λ j. moved up (once k j + times j ks) (w j)) (λ j. moved_both up (once k j) (times j ks) (w j)) st

module _ (st : List Rec) (a : Asc numbered st) (n : ℕ) (l : n ≡ length st) where
  -- small counts can be counted in
  pub open_up : (ks : List (List ℕ)) (w : List ℕ → ℕ) (t : List ℕ) → take n t ≡ by_key w st → ((k : List ℕ) → w k + length ks < 65536) → Open true st t ks
  unfolding moved
  open_up [] w t e b = tt
  open_up (k ∷ ks) w t e b = λ s. (
    omega (arith, count_at_lem st a n l true w t e k s, b k),
    open_up ks (λ j. moved true (once k j) (w j)) (noted true st t k) (count_one st a n l true w t e k s) (λ j. omega (arith, b j, once_few k j)),
  )

  -- what was counted in can be counted out
  pub open_down : (ks : List (List ℕ)) (w : List ℕ → ℕ) (t : List ℕ) → take n t ≡ by_key w st → ((k : List ℕ) → times k ks ≤ w k) → Open false st t ks
  unfolding moved times
  open_down [] w t e b = tt
  open_down (k ∷ ks) w t e b = λ s. (
    omega (arith, count_at_lem st a n l false w t e k s, b k, once_same k),
    open_down ks (λ j. moved false (once k j) (w j)) (noted false st t k) (count_one st a n l false w t e k s) (λ j. omega (arith, b j)),
  )

-- counts are moved where they stand
pub length_noted : (up : Bool) (st : List Rec) (ks : List (List ℕ)) (t : List ℕ) → length (noted_all up st t ks) ≡ length t
unfolding noted_all noted
length_noted up st [] t = refl
length_noted up st (k ∷ ks) t = length_noted up st ks (noted up st t k) ∙ length-set t (rank numbered k st) (moved up 1 (get_or t (rank numbered k st) 0))

-- what a record whose references are met refers to stands
pub has_all : (st : List Rec) (x : Rec) → T (meets numbered ref_numbers st x) → T (all (has numbered st) (ref_numbers x))
unfolding meets
has_all st x t = all_map _ _ (λ k u. and_r (apart numbered k (key_numbers x)) _ u) (ref_numbers x) t

-- ---- a record more, another, one less

module _ (w : List ℕ → ℕ) (t k : List ℕ) (st : List Rec) (n i : ℕ) (e : take n t ≡ by_key w st) (r : i ≡ rank numbered k st) where
  front : i ≤ n → take i t ≡ by_key w (take i st)
  front m = sym (take-take i n t m) ∙ ap (take i) e ∙ sym (map_take (λ x. w (key_numbers x)) i st)

  rest : (j : ℕ) → take (n - j) (drop j t) ≡ by_key w (drop j st)
  rest j = sym (drop_take j n t) ∙ ap (drop j) e ∙ sym (map_drop (λ x. w (key_numbers x)) j st)

  -- the number of a record more in the room made for it
  pub count_open : (x : Rec) (v : ℕ) → n < length t → i ≤ n → get numbered k st ≡ none → w (key_numbers x) ≡ v → take (n + 1) (opened t n i v) ≡ by_key w (put numbered k (some x) st)
  count_open x v l m g z =
      let p : put numbered k (some x) st ≡ take i st ++ (x ∷ drop i st) = put_at numbered k (some x) st ∙ rw (g, ← r, add-zero i) in
      open_take t n i v m l
      ∙ ap₂ (λ y u. y ++ (v ∷ u)) (front m) (rest i)
      ∙ sym (ap (by_key w) p ∙ map-append (λ y. w (key_numbers y)) (take i st) (x ∷ drop i st) ∙ rw z)

  -- closed up over the number of a record that is gone
  pub count_close : (q : Rec) → n ≤ length t → i < n → get numbered k st ≡ some q → take (n - 1) (closed t n i) ≡ by_key w (put numbered k none st)
  count_close q l m g =
      let p : put numbered k none st ≡ take i st ++ drop (i + 1) st = put_at numbered k none st ∙ rw (g, ← r) in
      close_take t n i m l
      ∙ ap₂ (λ y u. y ++ u) (front (omega arith)) (rest (i + 1))
      ∙ sym (ap (by_key w) p ∙ map-append (λ y. w (key_numbers y)) (take i st) (drop (i + 1) st))

-- another record of the same key has the same number
pub count_same : (w : List ℕ → ℕ) (x q : Rec) (st : List Rec) → get numbered (key_numbers x) st ≡ some q → by_key w (put numbered (key_numbers x) (some x) st) ≡ by_key w st
unfolding put puts get gets
count_same w x q [] g = absurd (some≢none (sym g))
count_same w x q (y ∷ ys) g = go (lex (key_numbers x) (key_numbers y)) refl g (count_same w x q ys)
  where
    go : (c : Tri) → lex (key_numbers x) (key_numbers y) ≡ c → gets numbered c y (get numbered (key_numbers x) ys) ≡ some q
        → (get numbered (key_numbers x) ys ≡ some q → by_key w (put numbered (key_numbers x) (some x) ys) ≡ by_key w ys)
        → by_key w (puts numbered c (some x) y ys (put numbered (key_numbers x) (some x) ys)) ≡ by_key w (y ∷ ys)
    go lt e g f = absurd (some≢none (sym g))
    go eq e g f = ap (λ z. z ∷ by_key w ys) (ap w (lex_order.equal (key_numbers x) (key_numbers y) e))
    go gt e g f = ap (λ z. w (key_numbers y) ∷ z) (f g)
