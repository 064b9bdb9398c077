-- The laws of the search by halves, and of what stands at the place that it finds.
use mathlib.Core.Path.{◌≡◌, refl, sym, ap, ◌∙◌, subst}
use mathlib.Core.Bool.{Bool, true, false, not}
use mathlib.Core.List.{List, [], ◌∷◌, ◌++◌}
use Prim.Native.Nat.{ℕ, suc, ◌+◌, ◌-◌, ◌/◌, ◌≤◌, ◌<◌}
use native.Mathlib.Decide.{dec_le}
use native.Mathlib.Nat.{lt_of_not-le}
use native.Mathlib.Omega.{arith}
use borrow.Author.Rules.{rules}
use lib.Dec.{T, eqb, eqb→eq}
use borrow.Author.Tests.{eq-eqb}
use lib.ListN.{length, get_or, take, drop, take-append-drop, drop_of_length-le}
use lib.Seq.{take-add, length-take-le}
use Rattle.base.specs.Lists.{all, some?}
use Rattle.base.specs.ListLaws.{all_snoc}
use Rattle.theory.specs.Tri.{Tri, lt, eq, gt, is_eq, is_gt}
use Rattle.theory.specs.Lex.{lex}
use Rattle.theory.specs.Keyed.{Keyed}
use Rattle.theory.specs.Store.{get, gets, Asc}
use Rattle.theory.specs.Rank.{ahead, rank, ranks}
use Rattle.theory.proofs.RankLaws.{rank_scan, rank_stop, ahead_before}
use Rattle.std.specs.declared.cmp.Ordering.{Ordering}
use Rattle.std.specs.declared.cmp.Ordering.TheVariants.{Less, Equal, Greater}
use Rattle.std.specs.Ordering.{is_gt as ordering_gt, is_eq as ordering_eq}
use Rattle.text.specs.Order.{tri_of}
use Rattle.keys.specs.Numbers.{key_list, key_numbers, numbered}
use Rattle.entries.specs.Entries.{record_of}
use Rattle.entries.specs.Tags.{tag_of, key_tagged, no_tag, Tells}
use Rattle.entries.proofs.TagLaws.{tags_after, tags_same, tags_not_after, tags_other}
use Rattle.places.specs.Places.{says}
use Rattle.places.specs.Ordered.{Ordered}
use Rattle.places.proofs.SaysLaws.{length_says, says_at, says_split}
use Rattle.places.proofs.OrderedLaws.{ordered_asc, tagged_in, tagged_at}

-- ---- answers of an order

gt_told : (o : Ordering) (c : Tri) → tri_of o ≡ c → ordering_gt o ≡ is_gt c
gt_told o c e = go o ∙ ap is_gt e
  where
    go : (o : Ordering) → ordering_gt o ≡ is_gt (tri_of o)
    go Less = refl
    go Equal = refl
    go Greater = refl

eq_told : (o : Ordering) (c : Tri) → tri_of o ≡ c → ordering_eq o ≡ is_eq c
eq_told o c e = go o ∙ ap is_eq e
  where
    go : (o : Ordering) → ordering_eq o ≡ is_eq (tri_of o)
    go Less = refl
    go Equal = refl
    go Greater = refl

-- ---- the search

-- the records below `low` stand before the key, and none from `high` on does
pub record Placing (h f a : List ℕ) (n : ℕ) (k : List ℕ) (low high : ℕ) : Type 0 where
  pub below : T (all (ahead numbered k) (take low (says h f a n)))
  pub beyond : rank numbered k (drop high (says h f a n)) ≡ 0
  pub order : low ≤ high
  pub within : high ≤ n

module _ (h f a t : List ℕ) (n : ℕ) (k : List ℕ) (w : Ordered h f a t n) where
  -- at first nothing is known
  pub placing_start : Placing h f a n k 0 n
  unfolding rank
  placing_start = record { below = tt; beyond = rw (drop_of_length-le (says h f a n) {i = n} (omega (arith, length_says h f a n w.within))); order = omega arith; within = omega arith }

  module _ (low high mid : ℕ) (g : Placing h f a n k low high) (y : low < high) (m : mid ≡ low + (high - low) / 2) where
    -- a record in the middle that stands before the key leaves the upper half
    upper : is_gt (lex k (key_numbers (record_of h f (get_or a mid 0)))) ≡ true → Placing h f a n k (mid + 1) high
    upper z =
        let b : T (ahead numbered k (record_of h f (get_or a mid 0))) = unfold ahead in rw z tt in
        let before = ahead_before numbered k (take mid (says h f a n)) (record_of h f (get_or a mid 0)) (drop (suc mid) (says h f a n)) (subst (Asc numbered) (says_split h f a n w.within mid (omega (arith, g.within))) (ordered_asc h f a t n w)) b in
        record { below = rw more (all_snoc (ahead numbered k) (take mid (says h f a n)) (record_of h f (get_or a mid 0)) before b); beyond = g.beyond; order = omega arith; within = g.within }
      where
        more : take (mid + 1) (says h f a n) ≡ take mid (says h f a n) ++ (record_of h f (get_or a mid 0) ∷ [])
        more =
            let e : drop mid (says h f a n) ≡ record_of h f (get_or a mid 0) ∷ drop (suc mid) (says h f a n) = says_at h f a n w.within mid (omega (arith, g.within)) in
            take-add mid 1 (says h f a n) ∙ rw e

    -- any other the lower half
    lower : is_gt (lex k (key_numbers (record_of h f (get_or a mid 0)))) ≡ false → Placing h f a n k low mid
    lower z =
        let b : T (not (ahead numbered k (record_of h f (get_or a mid 0)))) = unfold ahead in rw z tt in
        record {
          below = g.below;
          beyond = rw (says_at h f a n w.within mid (omega (arith, g.within))) (rank_stop numbered k (record_of h f (get_or a mid 0)) (drop (suc mid) (says h f a n)) b);
          order = omega arith;
          within = omega (arith, g.within);
        }

    module _ (o : Ordering) (u : tri_of o ≡ lex k (key_numbers (record_of h f (get_or a mid 0)))) (b : Bool) (q : b ≡ ordering_gt o) where
      -- so it goes by what is told of it
      pub placing_up : b ≡ true → Placing h f a n k (mid + 1) high
      placing_up z = upper (sym (gt_told o _ u) ∙ sym q ∙ z)

      pub placing_down : b ≡ false → Placing h f a n k low mid
      placing_down z = lower (sym (gt_told o _ u) ∙ sym q ∙ z)

  -- where the two meet is the key's place
  pub placing_done : (low high : ℕ) → Placing h f a n k low high → high ≤ low → low ≡ rank numbered k (says h f a n)
  placing_done low high g m =
      let q : high ≡ low = omega (arith, g.order) in
      let r = rank_scan numbered k (take low (says h f a n)) (drop low (says h f a n)) g.below in
      sym (rw (take-append-drop low (says h f a n)) at r ∙ omega (arith, length-take-le low (says h f a n) (omega (arith, length_says h f a n w.within, g.within)), rw q at g.beyond))

  module _ (low high : ℕ) (g : Placing h f a n k low high) where
    -- it is among the entries, or after them
    pub placing_in : high ≤ low → low ≤ n
    placing_in m = omega (arith, g.order, g.within)

    module _ (y : low < high) where
      -- the middle is among them
      pub mid_in : low + (high - low) / 2 < length a
      mid_in = omega (arith, g.within, w.within)

      -- so is its tag
      pub mid_tag_in : low + (high - low) / 2 < length t
      mid_tag_in = tagged_in h f a t n w (low + (high - low) / 2) (omega (arith, g.within))

      -- which is that of its key
      pub mid_tag : get_or t (low + (high - low) / 2) 0 ≡ tag_of (key_numbers (record_of h f (get_or a (low + (high - low) / 2) 0)))
      mid_tag = tagged_at h f a t n w (low + (high - low) / 2) (omega (arith, g.within))

pub ruleset placing = (rules, placing_start, placing_up, placing_down, placing_done, placing_in, mid_in, mid_tag_in, mid_tag)

-- ---- what stands at the place

module _ (K : Keyed) where
  open K use {Key, Rec, cmp, key}

  -- the key does not stand after the first record's
  abbrev pub Stops : Key → List Rec → Type 0
  Stops k [] = Unit {0}
  Stops k (x ∷ xs) = T (not (is_gt (cmp k (key x))))

  -- a look-up may begin at the key's place
  pub get_rank : (k : Key) (st : List Rec) → (get K k st ≡ get K k (drop (rank K k st) st)) × Stops k (drop (rank K k st) st)
  unfolding get gets rank ranks
  get_rank k [] = (refl, tt)
  get_rank k (x ∷ xs) = go (cmp k (key x)) refl (get_rank k xs)
    where
      go : (c : Tri) → cmp k (key x) ≡ c → (get K k xs ≡ get K k (drop (rank K k xs) xs)) × Stops k (drop (rank K k xs) xs)
          → (gets K c x (get K k xs) ≡ get K k (drop (ranks K c (rank K k xs)) (x ∷ xs))) × Stops k (drop (ranks K c (rank K k xs)) (x ∷ xs))
      go lt e ih = (rw e, rw e tt)
      go eq e ih = (rw e, rw e tt)
      go gt e ih = ih

module _ (h f a : List ℕ) (n i : ℕ) (k : List ℕ) (l : n ≤ length a) (r : i ≡ rank numbered k (says h f a n)) where
  -- a key whose place is past the entries stands nowhere
  pub stands_past : n ≤ i → false ≡ some? (get numbered k (says h f a n))
  unfolding get
  stands_past m =
      let d : drop (rank numbered k (says h f a n)) (says h f a n) ≡ [] = drop_of_length-le (says h f a n) {i = rank numbered k (says h f a n)} (omega (arith, length_says h f a n l)) in
      sym (ap some? (get_rank numbered k (says h f a n)).0 ∙ rw d)

  -- one that stands somewhere has its place among the entries
  pub stands_in : (b : Bool) → b ≡ some? (get numbered k (says h f a n)) → b ≡ true → i < n
  stands_in b e t = elim (dec_le n i) [ yes m ↦ absurd (subst T (sym t ∙ e ∙ sym (stands_past m)) tt) | no m ↦ lt_of_not-le m ]

  module _ (b : Bool) (m : i < n) where
    -- else it stands where the entry at its place has it
    stands_by : b ≡ is_eq (lex k (key_numbers (record_of h f (get_or a i 0)))) → b ≡ some? (get numbered k (says h f a n))
    unfolding get gets
    stands_by v =
        let d : drop (rank numbered k (says h f a n)) (says h f a n) ≡ record_of h f (get_or a i 0) ∷ drop (suc i) (says h f a n) = rw (← r) (says_at h f a n l i m) in
        let w : T (not (is_gt (lex k (key_numbers (record_of h f (get_or a i 0)))))) = subst (Stops numbered k) d (get_rank numbered k (says h f a n)).1 in
        v ∙ sym (ap some? (get_rank numbered k (says h f a n)).0 ∙ rw d (go (lex k (key_numbers (record_of h f (get_or a i 0)))) w))
      where
        go : (c : Tri) → T (not (is_gt c)) → some? (gets numbered c (record_of h f (get_or a i 0)) (get numbered k (drop (suc i) (says h f a n)))) ≡ is_eq c
        go lt t = refl
        go eq t = refl
        go gt t = absurd t

    -- as is told of it
    pub stands_at : (o : Ordering) → tri_of o ≡ lex k (key_numbers (record_of h f (get_or a i 0))) → b ≡ ordering_eq o → b ≡ some? (get numbered k (says h f a n))
    stands_at o u v = stands_by (v ∙ eq_told o _ u)

pub ruleset standing = (rules, stands_past, stands_at, tagged_in, tagged_at)

-- ---- by an even tag

module _ (h f a t : List ℕ) (n v : ℕ) (w : Ordered h f a t n) (e : Tells v) (z : v ≡ no_tag → ⊥) where
  module _ (low high mid : ℕ) (g : Placing h f a n (key_list (key_tagged v)) low high) (y : low < high) (m : mid ≡ low + (high - low) / 2) where
    mid_told : get_or t mid 0 ≡ tag_of (key_numbers (record_of h f (get_or a mid 0)))
    mid_told = tagged_at h f a t n w mid (omega (arith, g.within))

    -- a lower tag in the middle leaves the upper half
    pub tagged_up : get_or t mid 0 < v → Placing h f a n (key_list (key_tagged v)) (mid + 1) high
    tagged_up o = upper h f a t n (key_list (key_tagged v)) w low high mid g y m (sym (ap is_gt (tags_after (get_or t mid 0) v (key_tagged v) _ mid_told (e.tag z) o)))

    -- any other the lower half
    pub tagged_down : v ≤ get_or t mid 0 → Placing h f a n (key_list (key_tagged v)) low mid
    tagged_down o = lower h f a t n (key_list (key_tagged v)) w low high mid g y m (tags_not_after (get_or t mid 0) v (key_tagged v) _ mid_told (e.tag z) o e.even)

  module _ (i : ℕ) (r : i ≡ rank numbered (key_list (key_tagged v)) (says h f a n)) (m : i < n) where
    -- the tag at the key's place is the key's
    tagged_stands : get_or t i 0 ≡ v → true ≡ some? (get numbered (key_list (key_tagged v)) (says h f a n))
    tagged_stands o = stands_by h f a n i (key_list (key_tagged v)) w.within r true m (ap is_eq (tags_same (get_or t i 0) v (key_tagged v) _ (tagged_at h f a t n w i m) (e.tag z) (omega arith) (omega arith) e.even))

    -- or another's
    tagged_other : (get_or t i 0 ≡ v → ⊥) → false ≡ some? (get numbered (key_list (key_tagged v)) (says h f a n))
    tagged_other o = stands_by h f a n i (key_list (key_tagged v)) w.within r false m (tags_other (get_or t i 0) v (key_tagged v) _ (tagged_at h f a t n w i m) (e.tag z) o)

    -- which tells whether it stands
    pub tagged_told : eqb (get_or t i 0) v ≡ some? (get numbered (key_list (key_tagged v)) (says h f a n))
    tagged_told = go (eqb (get_or t i 0) v) refl
      where
        go : (b : Bool) → eqb (get_or t i 0) v ≡ b → b ≡ some? (get numbered (key_list (key_tagged v)) (says h f a n))
        go true q = tagged_stands (eqb→eq (get_or t i 0) v (subst T (sym q) tt))
        go false q = tagged_other (λ o. subst T (sym (eq-eqb (get_or t i 0) v o) ∙ q) tt)

pub ruleset tagplacing = (rules, placing_start, tagged_up, tagged_down, placing_done, placing_in, mid_tag_in)

pub ruleset tagstanding = (rules, stands_past, tagged_told, tagged_in)
