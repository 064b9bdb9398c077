-- The laws by which references are looked up and counted: one for each way out.
use mathlib.Core.Path.{◌≡◌, refl, sym, ap, ◌∙◌, subst}
use mathlib.Core.Bool.{Bool, true, false}
use mathlib.Core.Option.{Option, none, some}
use mathlib.Core.List.{List, [], ◌∷◌, ◌++◌, map}
use Rattle.std.specs.Prelude as std
use Rattle.std.specs.Prelude.{Some, None}
use Prim.Native.Nat.{ℕ, zero, suc, ◌+◌, ◌-◌, ◌%◌, ◌≤◌, ◌<◌}
use native.Mathlib.Omega.{arith}
use borrow.Author.Rules.{rules}
use borrow.Author.Tests.{not-true, not-false}
use mir.Syntax.{w16}
use mir.Val.{Fits}
use lib.Dec.{T}
use lib.ListN.{length, get_or, take, drop, set, replicate, length-replicate, drop_of_length-le, length-map}
use lib.Seq.{length-take-le, take_at, drop-cons}
use native.Mathlib.Numerals.{add-one}
use Rattle.base.specs.Lists.{all, some?, zeros}
use native.Mathlib.Decide.{dec_lt}
use Rattle.base.specs.Tests.{and_r}
use Rattle.theory.specs.Tri.{is_eq}
use Rattle.theory.specs.Lex.{lex}
use Rattle.theory.specs.Store.{cons?, get}
use Rattle.theory.specs.Rank.{rank}
use Rattle.theory.specs.Refs.{apart, has}
use Rattle.meaning.specs.Records.{Rec}
use Rattle.keys.specs.declared.Key.{Key}
use Rattle.keys.specs.Numbers.{key_list, key_numbers, referred_as, ref_at, ref_numbers, numbered}
use Rattle.keys.proofs.KeyLaws.{refs_are}
use Rattle.entries.specs.declared.references.Named.{Named}
use Rattle.entries.specs.References.{keys_as, RefersAs}
use Rattle.entries.specs.Tags.{tag_of, key_tagged, ref_tagged, no_tag, Tells, TagsOf}
use Rattle.entries.proofs.TagLaws.{tags_same, tags_other, untag_none, untag_some, Untags, untag_reference, key_of_lem, key_of_is}
use Rattle.places.specs.Places.{says, met_by}
use Rattle.places.specs.Counts.{moved, Movable, noted, noted_all, Open, NotesOne, Notes}
use Rattle.places.proofs.SearchLaws.{stands_in}
use Rattle.places.proofs.MetLaws.{met_nothing, met_own, met_told, met_as, meets_rows}

-- ---- counts of nothing

zeros_are : (n : ℕ) → replicate n 0 ≡ zeros n
unfolding zeros
zeros_are zero = refl
zeros_are (suc n) = ap (λ l. 0 ∷ l) (zeros_are n)

-- the first n of o, filled with them, and what is behind
pub clear_told : (n : ℕ) (o a b : List ℕ) → a ≡ replicate (length (take n o)) 0 → n ≤ length o → take n (a ++ b) ≡ zeros n
clear_told n o a b e h =
    let l : length (take n o) ≡ n = length-take-le n o h in
    let f : a ≡ zeros n = e ∙ rw l (zeros_are n) in
    take_at a b n (ap length e ∙ length-replicate (length (take n o)) 0 ∙ l) ∙ f

-- ---- a count

module _ (up : Bool) (c : ℕ) (m : Movable up c) where
  -- one up can be written
  pub up_fits : up ≡ true → Fits w16 (c + 1)
  up_fits t = record { fits = omega (arith, subst (λ b. Movable b c) t m) }

  -- one down is not below 0
  pub down_fits : up ≡ false → 1 ≤ c
  down_fits f = subst (λ b. Movable b c) f m

-- one up
pub up_is : (up : Bool) (c : ℕ) → up ≡ true → c + 1 ≡ moved up 1 c
unfolding moved
up_is up c t = rw t

-- one down
pub down_is : (up : Bool) (c : ℕ) → up ≡ false → c - 1 ≡ moved up 1 c
unfolding moved
down_is up c t = rw t

pub ruleset moving = (rules, up_fits, down_fits, up_is, down_is)

-- ---- one reference

module _ (up : Bool) (h f a : List ℕ) (n : ℕ) (own t : List ℕ) (to : std.Option Key) where
  -- nothing is met, and nothing counted
  pub note_nothing : to ≡ None → NotesOne up (says h f a n) own (referred_as to) t t true
  unfolding noted_all
  note_nothing e = record { met = met_nothing (says h f a n) own to e; noted = λ z. rw e }

  module _ (k : Key) (e : to ≡ Some k) (b : Bool) (q : b ≡ is_eq (lex (key_list k) own)) where
    -- its own key is not met
    pub note_own : b ≡ true → NotesOne up (says h f a n) own (referred_as to) t t false
    note_own y = record { met = met_own (says h f a n) own to k e b q y; noted = λ z. absurd (subst T (sym z) tt) }

    module _ (y : b ≡ false) (c : Bool) (s : c ≡ some? (get numbered (key_list k) (says h f a n))) where
      -- one that stands nowhere isn't
      pub note_unmet : c ≡ false → NotesOne up (says h f a n) own (referred_as to) t t false
      note_unmet z = record { met = sym z ∙ met_told (says h f a n) own to k e b q c y s; noted = λ z. absurd (subst T (sym z) tt) }

      module _ (z : c ≡ true) (i : ℕ) (r : i ≡ rank numbered (key_list k) (says h f a n)) where
        -- the place of one that stands is among the entries
        pub note_in : n ≤ length a → n ≤ length t → i < length t
        note_in l m = omega (arith, stands_in h f a n i (key_list k) l r c s z)

        stood : T (has numbered (says h f a n) (key_list k))
        unfolding has
        stood = subst T (sym (sym s ∙ z)) tt

        -- its count can be moved
        pub note_movable : Open up (says h f a n) t (cons? (referred_as to) []) → Movable up (get_or t i 0)
        note_movable o = rw r (rw e at o stood).0

        -- and is
        pub note_met : (m : ℕ) → m ≡ moved up 1 (get_or t i 0) → NotesOne up (says h f a n) own (referred_as to) t (set t i m) true
        unfolding noted_all noted
        note_met m u = record { met = sym z ∙ met_told (says h f a n) own to k e b q c y s; noted = λ x. rw (e, u, r) }

pub ruleset noteone = (rules, not-true, not-false, note_nothing, note_own, note_unmet, note_in, note_movable, note_met)

-- ---- a record's, one after another

-- several references of the record whose key is `own`: whether they are met, and then the counts with them
pub record NotesAll (up : Bool) (st : List Rec) (own : List ℕ) (os : List (std.Option Key)) (t u : List ℕ) (b : Bool) : Type 0 where
  pub met : b ≡ all (met_as st own) os
  pub noted : b ≡ true → u ≡ noted_all up st t (keys_as os)

-- those of x that are left can be counted, and say what all do
pub record Left (up : Bool) (st : List Rec) (x : Rec) (own t : List ℕ) (os : List (std.Option Key)) (u : List ℕ) : Type 0 where
  pub can : Open up st u (keys_as os)
  pub gives : (v : List ℕ) (b : Bool) → NotesAll up st own os u v b → Notes up st x t v b

-- at first all are left
pub left_start : (up : Bool) (st : List Rec) (x : Rec) (r : Named) → RefersAs x r → (t : List ℕ) → Open up st t (ref_numbers x) → Left up st x (key_list r.own) t r.to t
left_start up st x r e t o = record {
  can = rw (← e.refs) at o;
  gives = λ v b n. record { met = n.met ∙ sym (meets_rows st x r e); noted = λ z. n.noted z ∙ ap (noted_all up st t) e.refs };
}

module _ (up : Bool) (st : List Rec) (x : Rec) (own t : List ℕ) where
  -- where none is left it is said
  pub left_done : (u : List ℕ) → Left up st x own t [] u → Notes up st x t u true
  unfolding noted_all
  left_done u w = w.gives u true (record { met = refl; noted = λ z. refl })

  module _ (o : std.Option Key) (os : List (std.Option Key)) (u : List ℕ) (w : Left up st x own t (o ∷ os) u) where
    -- the next can be counted
    pub left_open : Open up st u (cons? (referred_as o) [])
    left_open = go (referred_as o) w.can
      where
        go : (p : Option (List ℕ)) → Open up st u (cons? p (keys_as os)) → Open up st u (cons? p [])
        go none o = tt
        go (some k) o = λ s. ((o s).0, tt)

    module _ (v : List ℕ) (b : Bool) (n : NotesOne up st own (referred_as o) u v b) where
      -- one that is not met says it
      pub left_unmet : b ≡ false → Notes up st x t v false
      left_unmet f = w.gives v false (record { met = rw (sym n.met ∙ f); noted = λ z. absurd (subst T (sym z) tt) })

      -- after one that is those after it are left
      pub left_next : b ≡ true → Left up st x own t os v
      left_next y = record { can = open_next (referred_as o) w.can (sym n.met ∙ y) (n.noted y); gives = λ z c m. w.gives z c (record { met = m.met ∙ rw (sym n.met ∙ y); noted = λ q. m.noted q ∙ more (referred_as o) (n.noted y) }) }
        where
          open_next : (p : Option (List ℕ)) → Open up st u (cons? p (keys_as os)) → met_by st own p ≡ true → v ≡ noted_all up st u (cons? p []) → Open up st v (keys_as os)
          open_next none o m q = unfold noted_all in rw q o
          open_next (some k) o m q = unfold noted_all met_by in rw q (o (and_r (apart numbered k own) _ (subst T (sym m) tt))).1

          more : (p : Option (List ℕ)) → v ≡ noted_all up st u (cons? p []) → noted_all up st v (keys_as os) ≡ noted_all up st u (cons? p (keys_as os))
          more none q = unfold noted_all in rw q
          more (some k) q = unfold noted_all in rw q

-- ---- those from i on of a list

module _ (up : Bool) (st : List Rec) (x : Rec) (own t : List ℕ) (l : List (std.Option Key)) (i : ℕ) (u : List ℕ) (w : Left up st x own t (drop i l) u) where
  -- past the last it is said
  pub from_done : length l ≤ i → Notes up st x t u true
  from_done h = left_done up st x own t u (rw (drop_of_length-le l {i = i} h) at w)

  module _ (d : std.Option Key) (h : i < length l) where
    from_here : Left up st x own t (get_or l i d ∷ drop (suc i) l) u
    from_here = rw (drop-cons l i d h) at w

    -- the one at i can be counted
    pub from_open : Open up st u (cons? (referred_as (get_or l i d)) [])
    from_open = left_open up st x own t (get_or l i d) (drop (suc i) l) u from_here

    module _ (v : List ℕ) (b : Bool) (n : NotesOne up st own (referred_as (get_or l i d)) u v b) where
      -- if it is not met that says it
      pub from_unmet : b ≡ false → Notes up st x t v false
      from_unmet f = left_unmet up st x own t (get_or l i d) (drop (suc i) l) u from_here v b n f

      -- else those after it are left
      pub from_next : b ≡ true → Left up st x own t (drop (i + 1) l) v
      from_next y = rw (add-one i) (left_next up st x own t (get_or l i d) (drop (suc i) l) u from_here v b n y)

-- ---- by tags

module _ (h f a t : List ℕ) (n : ℕ) (x : Rec) (own v : ℕ) (e : own ≡ tag_of (key_numbers x)) (w : Tells v) where
  -- nothing is met, and nothing counted
  pub note_no_tag : v ≡ no_tag → NotesOne true (says h f a n) (key_numbers x) (referred_as (ref_tagged v)) t t true
  note_no_tag z = note_nothing true h f a n (key_numbers x) t (ref_tagged v) (untag_none v z)

  module _ (z : v ≡ no_tag → ⊥) where
    -- its own key is not met
    pub note_own_tag : v ≡ own → NotesOne true (says h f a n) (key_numbers x) (referred_as (ref_tagged v)) t t false
    note_own_tag o = note_own true h f a n (key_numbers x) t (ref_tagged v) (key_tagged v) (untag_some v z) true (ap is_eq (tags_same own v (key_tagged v) x e (w.tag z) (omega arith) (omega arith) w.even)) refl

    module _ (o : v ≡ own → ⊥) where
      -- another tag is of another key
      other : false ≡ is_eq (lex (key_list (key_tagged v)) (key_numbers x))
      other = tags_other own v (key_tagged v) x e (w.tag z) (λ q. o (sym q))

      module _ (c : Bool) (s : c ≡ some? (get numbered (key_list (key_tagged v)) (says h f a n))) where
        -- one whose key stands nowhere isn't
        pub note_tag_unmet : c ≡ false → NotesOne true (says h f a n) (key_numbers x) (referred_as (ref_tagged v)) t t false
        note_tag_unmet y = note_unmet true h f a n (key_numbers x) t (ref_tagged v) (key_tagged v) (untag_some v z) false other refl c s y

        module _ (y : c ≡ true) (i : ℕ) (r : i ≡ rank numbered (key_list (key_tagged v)) (says h f a n)) where
          -- the place of one whose key stands is among the entries
          pub note_tag_in : n ≤ length a → n ≤ length t → i < length t
          note_tag_in l m = note_in true h f a n (key_numbers x) t (ref_tagged v) (key_tagged v) (untag_some v z) false other refl c s y i r l m

          -- its count can be moved
          pub note_tag_movable : Open true (says h f a n) t (cons? (referred_as (ref_tagged v)) []) → Movable true (get_or t i 0)
          note_tag_movable u = note_movable true h f a n (key_numbers x) t (ref_tagged v) (key_tagged v) (untag_some v z) false other refl c s y i r u

          -- and is
          pub note_tag_met : (m : ℕ) → m ≡ moved true 1 (get_or t i 0) → NotesOne true (says h f a n) (key_numbers x) (referred_as (ref_tagged v)) t (set t i m) true
          note_tag_met m u = note_met true h f a n (key_numbers x) t (ref_tagged v) (key_tagged v) (untag_some v z) false other refl c s y i r m u

pub ruleset notetag = (rules, not-true, not-false, note_no_tag, note_own_tag, note_tag_unmet, note_tag_in, note_tag_movable, note_tag_met)

-- ---- a record's, by tags

get_tagged : (l : List ℕ) (i : ℕ) → get_or (map ref_tagged l) i (ref_tagged 0) ≡ ref_tagged (get_or l i 0)
get_tagged [] i = refl
get_tagged (v ∷ l) zero = refl
get_tagged (v ∷ l) (suc i) = get_tagged l i

module _ (st : List Rec) (x : Rec) (own t l : List ℕ) (i : ℕ) (u : List ℕ) (w : Left true st x own t (drop i (map ref_tagged l)) u) where
  -- past the last it is said
  pub tags_done : length l ≤ i → Notes true st x t u true
  tags_done h = from_done true st x own t (map ref_tagged l) i u w (omega (arith, length-map l ref_tagged))

  module _ (h : i < length l) where
    -- the one at i can be counted
    pub tags_open : Open true st u (cons? (referred_as (ref_tagged (get_or l i 0))) [])
    tags_open = rw (get_tagged l i) at (from_open true st x own t (map ref_tagged l) i u w (ref_tagged 0) (omega (arith, length-map l ref_tagged)))

    module _ (v : List ℕ) (b : Bool) (n : NotesOne true st own (referred_as (ref_tagged (get_or l i 0))) u v b) where
      -- if it is not met that says it
      pub tags_unmet : b ≡ false → Notes true st x t v false
      tags_unmet f = from_unmet true st x own t (map ref_tagged l) i u w (ref_tagged 0) (omega (arith, length-map l ref_tagged)) v b (rw (get_tagged l i) n) f

      -- else those after it are left
      pub tags_next : b ≡ true → Left true st x own t (drop (i + 1) (map ref_tagged l)) v
      tags_next y = from_next true st x own t (map ref_tagged l) i u w (ref_tagged 0) (omega (arith, length-map l ref_tagged)) v b (rw (get_tagged l i) n) y

two_are : (l : List ℕ) → length l ≡ 2 → l ≡ get_or l 0 0 ∷ (get_or l 1 0 ∷ [])
two_are [] e = absurd (omega arith)
two_are (v ∷ []) e = absurd (omega arith)
two_are (v ∷ w ∷ []) e = refl
two_are (v ∷ w ∷ y ∷ l) e = absurd (omega arith)

module _ (x : Rec) (own : ℕ) (l : List ℕ) (e : TagsOf x own (get_or l 0 0) (get_or l 1 0)) (y₁ : get_or l 0 0 % 2 ≡ 0) (y₂ : get_or l 1 0 % 2 ≡ 0) where
  firsts : Untags (get_or l 0 0) (ref_at x.kind x.content 0)
  firsts = untag_reference x.kind x.content 0 (get_or l 0 0) (omega arith) e.first y₁

  seconds : Untags (get_or l 1 0) (ref_at x.kind x.content 1)
  seconds = untag_reference x.kind x.content 1 (get_or l 1 0) (omega arith) e.second y₂

  -- what is kept tells
  pub each_tells : (i : ℕ) → i < 2 → Tells (get_or l i 0)
  each_tells i h = elim (dec_lt i 1) [ yes m ↦ (let z : i ≡ 0 = omega arith in rw z firsts.tells) | no m ↦ (let z : i ≡ 1 = omega arith in rw z seconds.tells) ]

  module _ (two : length l ≡ 2) where
    -- as if the references had been read
    abbrev read : Named
    read = record { own = key_of_lem x; to = map ref_tagged l }

    reads : RefersAs x read
    reads = record { own = key_of_is x; refs = ap (λ m. keys_as (map ref_tagged m)) (two_are l two) ∙ rw (firsts.refers, seconds.refers) (sym (refs_are x)) }

    -- at first all are left
    pub tags_start : (st : List Rec) (t : List ℕ) → Open true st t (ref_numbers x) → Left true st x (key_numbers x) t (map ref_tagged l) t
    tags_start st t o = rw (key_of_is x) at (left_start true st x read reads t o)
