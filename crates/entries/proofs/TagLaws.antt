-- The laws of tags: where they differ they stand in the order of keys, and an even one is of one key only.
use mathlib.Core.Path.{◌≡◌, refl, sym, ap, ◌∙◌, subst}
use mathlib.Core.Bool.{Bool, true, false, not, ◌&&◌}
use mathlib.Core.Option.{Option, none, some}
use mathlib.Core.List.{List, [], ◌∷◌}
use Rattle.std.specs.Prelude.{Some, None}
use Prim.Native.Nat.{ℕ, ◌+◌, ◌-◌, ◌*◌, ◌/◌, ◌%◌, ◌≤◌, ◌<◌}
use native.Mathlib.Decide.{dec_le}
use native.Mathlib.Nat.{lt_of_not-le}
use native.Mathlib.Numerals.{lt_of_le_of_ne}
use native.Mathlib.Omega.{arith}
use borrow.Author.Rules.{rules}
use borrow.Author.Tests.{le-leb, lt-leb, eq-eqb, ne_eqb}
use mir.Syntax.{w64}
use mir.Val.{Fits, bool_byte as from_bool}
use lib.Dec.{eqb, eqb→eq}
use lib.ListN.{get_or}
use Rattle.base.specs.Lists.{pick}
use Rattle.theory.specs.Tri.{Tri, lt, eq, gt, flip, is_eq, is_gt}
use Rattle.theory.specs.Lex.{cmp_n, Is, and_then, lex}
use Rattle.theory.specs.LexLaws.{cmp_n_is, lex_order}
use Rattle.meaning.specs.Kinds.{Kind}
use Rattle.meaning.specs.Records.{Rec}
use Rattle.layout.specs.Rows.{laid_out}
use Rattle.keys.specs.declared.Key.{Key}
use Rattle.keys.specs.Numbers.{key_list, key_numbers, referred_as, ref_at}
use Rattle.keys.specs.Places.{number_at, empty_at}
use Rattle.keys.proofs.RowLaws.{ref_none, ref_some}
use Rattle.entries.specs.Fields.{rest_numbers}
use Rattle.entries.specs.Tags.{span, looseness, tag_by, tag_of, no_tag, ref_tag, key_tagged, ref_tagged, Tells}
use Rattle.entries.proofs.EntryLaws.{key_numbers_lem}

-- ---- a key that is more than its first two numbers

-- of neither there is none
pub loose_none : (c d : ℕ) → c ≡ 0 → d ≡ 0 → 0 ≡ looseness c d
unfolding looseness
loose_none c d e f = rw (eq-eqb c 0 e, eq-eqb d 0 f)

-- one is not zero where the first is not
pub loose_one : (c d : ℕ) (b : Bool) → (c ≡ 0 → ⊥) → b ≡ not (eqb c 0) → b ≡ not (eqb c 0 && eqb d 0)
loose_one c d b n e = e ∙ rw (ne_eqb c 0 n)

-- or where the second is not
pub loose_other : (c d : ℕ) (b : Bool) → c ≡ 0 → b ≡ not (eqb d 0) → b ≡ not (eqb c 0 && eqb d 0)
loose_other c d b z e = e ∙ rw (eq-eqb c 0 z)

-- it is whether one of them is
pub loose_told : (c d r : ℕ) (b : Bool) → r ≡ from_bool b → b ≡ not (eqb c 0 && eqb d 0) → (r ≡ looseness c d) × (r ≤ 1)
unfolding looseness
loose_told c d r b e q = go (eqb c 0 && eqb d 0) (e ∙ ap from_bool q)
  where
    go : (p : Bool) → r ≡ from_bool (not p) → (r ≡ pick p 0 1) × (r ≤ 1)
    go true e = (e, omega (arith, e))
    go false e = (e, omega (arith, e))

-- what it says
loose_cases : (c d : ℕ) → looseness c d ≤ 1 × (looseness c d ≡ 0 → (c ≡ 0) × (d ≡ 0))
unfolding looseness
loose_cases c d = go (eqb c 0) refl (eqb d 0) refl
  where
    go : (p : Bool) → eqb c 0 ≡ p → (q : Bool) → eqb d 0 ≡ q → (pick (p && q) 0 1 ≤ 1) × (◌≡◌ {A = ℕ} (pick (p && q) 0 1) 0 → (c ≡ 0) × (d ≡ 0))
    go true e true f = (omega arith, λ z. (eqb→eq c 0 (rw e tt), eqb→eq d 0 (rw f tt)))
    go true e false f = (omega arith, λ z. absurd (omega (arith, z)))
    go false e q f = (omega arith, λ z. absurd (omega (arith, z)))

-- ---- a tag

beyond : (k n c d : ℕ) → 255 ≤ k → tag_by k n c d ≡ 18446744073709551615
unfolding tag_by
beyond k n c d l = rw (le-leb 255 k l)

highest : (k n c d : ℕ) → k < 255 → 36028797018963967 ≤ n → tag_by k n c d ≡ k * span + 72057594037927935
unfolding tag_by
highest k n c d l m = rw (lt-leb 255 k l, le-leb 36028797018963967 n m)

doubled : (k n c d : ℕ) → k < 255 → n < 36028797018963967 → tag_by k n c d ≡ k * span + (2 * n + looseness c d)
unfolding tag_by
doubled k n c d l m = rw (lt-leb 255 k l, lt-leb 36028797018963967 n m)

module _ (k n c d : ℕ) where
  -- of a kind that the table has not
  pub tag_beyond : 255 ≤ k → 18446744073709551615 ≡ tag_of (k ∷ n ∷ c ∷ d ∷ [])
  unfolding tag_of
  tag_beyond l = sym (beyond k n c d l)

  -- of a first number of too many digits
  pub tag_highest : k < 255 → 36028797018963967 ≤ n → k * span + (72057594037927936 - 1) ≡ tag_of (k ∷ n ∷ c ∷ d ∷ [])
  unfolding tag_of
  tag_highest l m = omega (arith, highest k n c d l m)

  -- of any other
  pub tag_doubled : (i : ℕ) → k < 255 → n < 36028797018963967 → i ≡ looseness c d → k * span + (2 * n + i) ≡ tag_of (k ∷ n ∷ c ∷ d ∷ [])
  unfolding tag_of
  tag_doubled i l m e = omega (arith, doubled k n c d l m)

-- it can be written
pub span_fits : (k : ℕ) → k < 255 → Fits w64 (k * span)
span_fits k l = record { fits = omega arith }

pub twice_fits : (n : ℕ) → n < 36028797018963967 → Fits w64 (2 * n)
twice_fits n m = record { fits = omega arith }

pub loose_fits : (n i : ℕ) → n < 36028797018963967 → i ≤ 1 → Fits w64 (2 * n + i)
loose_fits n i m e = record { fits = omega arith }

pub tag_fits : (k n i : ℕ) → k < 255 → n < 36028797018963967 → i ≤ 1 → Fits w64 (k * span + (2 * n + i))
tag_fits k n i l m e = record { fits = omega arith }

pub ruleset tagging = (rules, tag_beyond, tag_highest, tag_doubled, span_fits, twice_fits, loose_fits, tag_fits)

-- that of an entry's record
pub tag_entry : (k x : List ℕ) (t : ℕ) → k ≡ x → t ≡ tag_of k → t ≡ tag_of x
tag_entry k x t e q = q ∙ ap tag_of e

pub ruleset entrytag = (rules, tag_entry)

-- ---- the order

-- a tag of a kind is one of its span
in_span : (k n c d : ℕ) → k < 255 → (k * span ≤ tag_by k n c d) × (tag_by k n c d < k * span + span)
in_span k n c d l = elim (dec_le 36028797018963967 n) [
  | yes m ↦ (omega (arith, highest k n c d l m), omega (arith, highest k n c d l m))
  | no m ↦ (omega (arith, doubled k n c d l (lt_of_not-le m)), omega (arith, doubled k n c d l (lt_of_not-le m), lt_of_not-le m, (loose_cases c d).0))
]

kinds_order : (j k m n a b c d : ℕ) → j < k → tag_by j m a b ≤ tag_by k n c d
kinds_order j k m n a b c d h = elim (dec_le 255 k) [
  | yes l ↦ elim (dec_le 255 j) [ yes g ↦ omega (arith, beyond k n c d l, beyond j m a b g) | no g ↦ omega (arith, beyond k n c d l, (in_span j m a b (lt_of_not-le g)).1, lt_of_not-le g) ]
  | no l ↦ omega (arith, (in_span k n c d (lt_of_not-le l)).0, (in_span j m a b (omega (arith, lt_of_not-le l))).1)
]

firsts_order : (k m n a b c d : ℕ) → m < n → tag_by k m a b ≤ tag_by k n c d
firsts_order k m n a b c d h = elim (dec_le 255 k) [
  | yes l ↦ omega (arith, beyond k m a b l, beyond k n c d l)
  | no l ↦ elim (dec_le 36028797018963967 n) [
    | yes g ↦ omega (arith, highest k n c d (lt_of_not-le l) g, (in_span k m a b (lt_of_not-le l)).1)
    | no g ↦ omega (arith, doubled k n c d (lt_of_not-le l) (lt_of_not-le g), doubled k m a b (lt_of_not-le l) (omega (arith, lt_of_not-le g)), (loose_cases a b).0)
  ]
]

-- where two keys begin alike the lower tag is of the key that is no more than that
rests_order : (k n a b c d : ℕ) → tag_by k n a b < tag_by k n c d → (looseness a b ≡ 0) × (looseness c d ≡ 1)
rests_order k n a b c d h = elim (dec_le 255 k) [
  | yes l ↦ absurd (omega (arith, beyond k n a b l, beyond k n c d l))
  | no l ↦ elim (dec_le 36028797018963967 n) [
    | yes g ↦ absurd (omega (arith, highest k n a b (lt_of_not-le l) g, highest k n c d (lt_of_not-le l) g))
    | no g ↦ (
      omega (arith, doubled k n a b (lt_of_not-le l) (lt_of_not-le g), doubled k n c d (lt_of_not-le l) (lt_of_not-le g), (loose_cases c d).0),
      omega (arith, doubled k n a b (lt_of_not-le l) (lt_of_not-le g), doubled k n c d (lt_of_not-le l) (lt_of_not-le g), (loose_cases c d).0),
    )
  ]
]

-- zeros stand before two numbers that are not both 0
zeros_before : (c d : ℕ) → looseness c d ≡ 1 → lex (0 ∷ 0 ∷ []) (c ∷ d ∷ []) ≡ lt
unfolding lex and_then
zeros_before c d e = go (cmp_n 0 c) (cmp_n_is 0 c)
  where
    more : (s : Tri) → c ≡ 0 → Is s 0 d → and_then s eq ≡ lt
    more lt z i = refl
    more eq z i = absurd (omega (arith, loose_none c d z (sym i)))
    more gt z i = absurd (omega arith)

    go : (s : Tri) → Is s 0 c → and_then s (and_then (cmp_n 0 d) eq) ≡ lt
    go lt i = refl
    go eq i = more (cmp_n 0 d) (sym i) (cmp_n_is 0 d)
    go gt i = absurd (omega arith)

module _ (j k m n a b c d : ℕ) where
  -- a key with a lower tag stands before
  tag_before : tag_by j m a b < tag_by k n c d → lex (j ∷ m ∷ a ∷ b ∷ []) (k ∷ n ∷ c ∷ d ∷ []) ≡ lt
  unfolding lex and_then
  tag_before h = kinds (cmp_n j k) (cmp_n_is j k)
    where
      rests : j ≡ k → m ≡ n → lex (a ∷ b ∷ []) (c ∷ d ∷ []) ≡ lt
      rests p q =
          let r = rests_order k n a b c d (rw (p, q) at h) in
          let z = (loose_cases a b).1 r.0 in
          rw (z.0, z.1) (zeros_before c d r.1)

      firsts : (s : Tri) → j ≡ k → Is s m n → and_then s (lex (a ∷ b ∷ []) (c ∷ d ∷ [])) ≡ lt
      firsts lt p i = refl
      firsts eq p i = rests p i
      firsts gt p i = absurd (omega (arith, firsts_order k n m c d a b i, rw p at h))

      kinds : (s : Tri) → Is s j k → and_then s (lex (m ∷ a ∷ b ∷ []) (n ∷ c ∷ d ∷ [])) ≡ lt
      kinds lt i = refl
      kinds eq i = firsts (cmp_n m n) i (cmp_n_is m n)
      kinds gt i = absurd (omega (arith, kinds_order k j n m c d a b i))

-- ---- one key only

-- an even tag tells a key whole
record Whole (k n c d : ℕ) : Type 0 where
  pub kind : k < 255
  pub first : n < 36028797018963967
  pub rest : (c ≡ 0) × (d ≡ 0)
  pub told : tag_by k n c d ≡ k * span + 2 * n

whole : (k n c d : ℕ) → tag_by k n c d % 2 ≡ 0 → Whole k n c d
whole k n c d e = elim (dec_le 255 k) [
  | yes l ↦ absurd (omega (arith, beyond k n c d l))
  | no l ↦ elim (dec_le 36028797018963967 n) [
    | yes g ↦ absurd (omega (arith, highest k n c d (lt_of_not-le l) g))
    | no g ↦ let z : looseness c d ≡ 0 = omega (arith, doubled k n c d (lt_of_not-le l) (lt_of_not-le g), (loose_cases c d).0) in record {
      kind = lt_of_not-le l;
      first = lt_of_not-le g;
      rest = (loose_cases c d).1 z;
      told = omega (arith, doubled k n c d (lt_of_not-le l) (lt_of_not-le g));
    }
  ]
]

-- so keys with one even tag are one
tag_one : (j k m n a b c d : ℕ) → tag_by j m a b ≡ tag_by k n c d → tag_by j m a b % 2 ≡ 0 → lex (j ∷ m ∷ a ∷ b ∷ []) (k ∷ n ∷ c ∷ d ∷ []) ≡ eq
tag_one j k m n a b c d e z =
    let u = whole j m a b z in
    let w = whole k n c d (rw e at z) in
    let p : j ≡ k = omega (arith, u.told, w.told, u.first, w.first) in
    let q : m ≡ n = omega (arith, u.told, w.told) in
    rw (p, q, u.rest.0, u.rest.1, w.rest.0, w.rest.1) (lex_order.same (k ∷ n ∷ 0 ∷ 0 ∷ []))

-- ---- of a key and a record's

-- four numbers
record Four (l : List ℕ) : Type 0 where
  pub kind : ℕ
  pub first : ℕ
  pub second : ℕ
  pub third : ℕ
  pub are : l ≡ kind ∷ first ∷ second ∷ third ∷ []

-- a record's key has so many
numbers : (r : Rec) → Four (key_numbers r)
unfolding rest_numbers
numbers r = record {
  kind = (laid_out r.kind).number;
  first = number_at r.kind r.content (get_or (laid_out r.kind).key 0 0);
  second = number_at r.kind r.content (get_or (laid_out r.kind).key 1 0);
  third = number_at r.kind r.content (get_or (laid_out r.kind).key 2 0);
  are = key_numbers_lem r.kind r.content;
}

-- so it is one as code has it
pub key_of_lem : Rec → Key
key_of_lem r = record { kind = (numbers r).kind; first = (numbers r).first; second = (numbers r).second; third = (numbers r).third }

pub key_of_is : (r : Rec) → key_list (key_of_lem r) ≡ key_numbers r
unfolding key_of_lem
key_of_is r = sym (numbers r).are

module _ (its ours : ℕ) (k : Key) (r : Rec) (e : its ≡ tag_of (key_numbers r)) (q : ours ≡ tag_of (key_list k)) where
  four : Four (key_numbers r)
  four = numbers r

  its_is : its ≡ tag_by four.kind four.first four.second four.third
  unfolding tag_of
  its_is = e ∙ ap tag_of four.are

  ours_is : ours ≡ tag_by k.kind k.first k.second k.third
  unfolding tag_of
  ours_is = q

  -- the lower tag tells
  pub tags_before : ours < its → lt ≡ lex (key_list k) (key_numbers r)
  tags_before h = sym (rw four.are (tag_before k.kind four.kind k.first four.first k.second k.third four.second four.third (omega (arith, its_is, ours_is))))

  -- and so does the higher
  pub tags_after : its < ours → gt ≡ lex (key_list k) (key_numbers r)
  tags_after h =
      sym (rw four.are (lex_order.turn (four.kind ∷ four.first ∷ four.second ∷ four.third ∷ []) (key_list k) ∙ ap flip (tag_before four.kind k.kind four.first k.first four.second four.third k.second k.third (omega (arith, its_is, ours_is)))))

  -- an even one that both have tells that they are the same
  pub tags_same : its ≤ ours → ours ≤ its → ours % 2 ≡ 0 → eq ≡ lex (key_list k) (key_numbers r)
  tags_same h g z = sym (rw four.are (tag_one k.kind four.kind k.first four.first k.second k.third four.second four.third (omega (arith, its_is, ours_is)) (omega (arith, ours_is))))

  -- so one that is not the higher tells that its key does not stand after
  pub tags_not_after : ours ≤ its → ours % 2 ≡ 0 → is_gt (lex (key_list k) (key_numbers r)) ≡ false
  tags_not_after h z = elim (dec_le its ours) [ yes g ↦ ap is_gt (sym (tags_same g h z)) | no g ↦ ap is_gt (sym (tags_before (lt_of_not-le g))) ]

  -- and two tags that they are not the same
  pub tags_other : (its ≡ ours → ⊥) → false ≡ is_eq (lex (key_list k) (key_numbers r))
  tags_other n = elim (dec_le its ours) [ yes g ↦ ap is_eq (tags_after (lt_of_le_of_ne g n)) | no g ↦ ap is_eq (tags_before (lt_of_not-le g)) ]

pub ruleset tagorder = (rules, tags_before, tags_after, tags_same)

-- ---- of what is referred to

-- the tag of no key says that nothing is
pub untag_none : (v : ℕ) → v ≡ no_tag → ref_tagged v ≡ None
unfolding ref_tagged
untag_none v e = rw (eq-eqb v no_tag e)

-- another its key
pub untag_some : (v : ℕ) → (v ≡ no_tag → ⊥) → ref_tagged v ≡ Some (key_tagged v)
unfolding ref_tagged
untag_some v n = rw (ne_eqb v no_tag n)

-- a tag says what is referred to
pub record Untags (v : ℕ) (o : Option (List ℕ)) : Type 0 where
  pub refers : referred_as (ref_tagged v) ≡ o
  pub tells : Tells v

-- that of nothing does
untag_nothing : (v : ℕ) → v ≡ ref_tag none → Untags v none
unfolding ref_tag
untag_nothing v e = record { refers = ap referred_as (untag_none v e); tells = record { even = omega arith; tag = λ z. absurd (z e) } }

-- and so does an even one of a key
untag_key : (v k n c d : ℕ) → v ≡ ref_tag (some (k ∷ n ∷ c ∷ d ∷ [])) → v % 2 ≡ 0 → Untags v (some (k ∷ n ∷ c ∷ d ∷ []))
unfolding ref_tag tag_of
untag_key v k n c d g e =
    let w = whole k n c d (rw g at e) in
    let p : v / span ≡ k = omega (arith, w.told, w.first) in
    let q : v % span / 2 ≡ n = omega (arith, w.told, w.first) in
    let key : key_list (key_tagged v) ≡ k ∷ n ∷ c ∷ d ∷ [] = rw (p, q, w.rest.0, w.rest.1) in
    record {
      refers = ap referred_as (untag_some v (λ z. omega (arith, z, w.told, w.first, w.kind))) ∙ ap some key;
      tells = record { even = e; tag = λ z. g ∙ ap tag_of (sym key) };
    }

-- so does one of what a row refers to
pub untag_reference : (k : Kind) (c : List ℕ) (j v : ℕ) → j ≤ 1 → v ≡ ref_tag (ref_at k c j) → v % 2 ≡ 0 → Untags v (ref_at k c j)
untag_reference k c j v h g e = go (empty_at k c (get_or (laid_out k).by j 0)) refl
  where
    go : (b : Bool) → b ≡ empty_at k c (get_or (laid_out k).by j 0) → Untags v (ref_at k c j)
    go true q = let o = ref_none k c j (laid_out k) refl h true q refl in subst (Untags v) o (untag_nothing v (g ∙ ap ref_tag (sym o)))
    go false q =
        let o = ref_some k c j (laid_out k) refl h false q (number_at k c (get_or (laid_out k).by j 0)) refl refl in
        subst (Untags v) o (untag_key v _ _ _ _ (g ∙ ap ref_tag (sym o)) e)
