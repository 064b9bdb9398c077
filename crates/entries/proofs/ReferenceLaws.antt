-- The laws of references: what a field refers to, and what a record does.
use mathlib.Core.Path.{◌≡◌, refl, sym, ap, subst, ◌∙◌}
use mathlib.Core.Bool.{Bool, true, false, ◌&&◌}
use mathlib.Core.Option.{Option, none, some}
use mathlib.Core.List.{List, [], ◌∷◌}
use Rattle.std.specs.Prelude as std
use Prim.Native.Nat.{ℕ, ◌-◌, ◌≤◌}
use borrow.Author.Rules.{rules}
use borrow.Author.Tests.{not-true, not-false, eq-eqb, ne_eqb}
use native.Mathlib.Omega.{arith}
use lib.Dec.{eqb}
use lib.ListN.{get_or}
use Rattle.base.specs.Lists.{pick}
use Rattle.theory.specs.Tri.{Tri, lt, eq, gt, is_eq}
use Rattle.theory.specs.Lex.{cmp_n, Is, and_then, lex}
use Rattle.theory.specs.LexLaws.{cmp_n_is}
use Rattle.meaning.specs.Lines.{identifier}
use Rattle.meaning.specs.Forms.{Form, is_empty}
use Rattle.meaning.specs.Kinds.{Kind}
use Rattle.meaning.specs.Format.{kind_of}
use Rattle.meaning.specs.Table.{scottish}
use Rattle.meaning.specs.Records.{Rec}
use Rattle.layout.specs.declared.records.Layout.{Layout}
use Rattle.layout.specs.Rows.{row_of, laid_out}
use Rattle.keys.specs.declared.Key.{Key}
use Rattle.keys.specs.Numbers.{number_of, key_list, referred_as, key_numbers, ref_at}
use Rattle.keys.proofs.KeyLaws.{refs_are}
use Rattle.keys.proofs.RowLaws.{ref_low, ref_none, ref_some}
use Rattle.entries.specs.Entries.{known, rec_of, line_at}
use Rattle.entries.specs.Fields.{after_fields, first_field, by_field}
use Rattle.entries.specs.declared.references.Named.{Named}
use Rattle.entries.specs.References.{RefersAs}
use Rattle.entries.proofs.EntryLaws.{rec_at}
use Rattle.entries.proofs.NumberLaws.{number_placed_lem, empty_placed}

-- ---- what a field refers to

module _ (m : Form) (f : List ℕ) (to : ℕ) (g : List ℕ) (z : g ≡ f) (b : Bool) (q : b ≡ is_empty m g) where
  -- an empty one to nothing
  pub by_none : b ≡ true → none ≡ by_field m f to
  unfolding by_field
  by_none t = rw (← z, sym q ∙ t)

  -- another to the key of its number
  pub by_some : (n : ℕ) → b ≡ false → n ≡ number_of m f → some (to ∷ n ∷ 0 ∷ 0 ∷ []) ≡ by_field m f to
  unfolding by_field
  by_some n t e = rw (e, ← z, sym q ∙ t)

pub ruleset byfield = (rules, not-true, not-false, by_none, by_some)

module _ (k : Kind) (s : List ℕ) (c j : ℕ) (l : Layout) (e : l ≡ laid_out k) (h : j ≤ 1) where
  -- the field at its place says it
  pub at_field : (m : Form) (i : ℕ) (o : Option (List ℕ)) → 4 ≤ get_or l.by j 0 → m ≡ (row_of k (get_or l.by j 0 - 1)).0 → line_at s i ≡ after_fields (get_or l.by j 0 - 4) (line_at s c)
      → o ≡ by_field m (first_field (line_at s i)) (get_or l.to j 0) → o ≡ ref_at k (line_at s c) j
  unfolding by_field
  at_field m i o p u w d = d ∙ go (is_empty m (first_field (line_at s i))) refl
    where
      place : ℕ
      place = get_or l.by j 0

      go : (b : Bool) → is_empty m (first_field (line_at s i)) ≡ b → pick b none (some (get_or l.to j 0 ∷ number_of m (first_field (line_at s i)) ∷ 0 ∷ 0 ∷ [])) ≡ ref_at k (line_at s c) j
      go true b = ref_none k (line_at s c) j l e h true (empty_placed k s c place i m p u w true (sym b)) refl
      go false b = ref_some k (line_at s c) j l e h false (empty_placed k s c place i m p u w false (sym b)) (number_of m (first_field (line_at s i))) refl (number_placed_lem k s c place i m p u w (number_of m (first_field (line_at s i))) refl)

pub ruleset rowat = (rules, ref_low, at_field)

-- ---- keys that are the same

same_number : (x y : ℕ) → eqb x y ≡ is_eq (cmp_n x y)
same_number x y = go (cmp_n x y) (cmp_n_is x y)
  where
    go : (c : Tri) → Is c x y → eqb x y ≡ is_eq c
    go lt h = ne_eqb x y (λ z. absurd (omega arith))
    go eq h = eq-eqb x y h
    go gt h = ne_eqb x y (λ z. absurd (omega arith))

same_then : (c d : Tri) → (is_eq c && is_eq d) ≡ is_eq (and_then c d)
unfolding and_then
same_then lt d = refl
same_then eq d = refl
same_then gt d = refl

-- two keys are the same where their numbers are
pub same_key : (a b c d x y z w : ℕ) (r : Bool) → r ≡ (eqb a x && (eqb b y && (eqb c z && eqb d w))) → r ≡ is_eq (lex (a ∷ b ∷ c ∷ d ∷ []) (x ∷ y ∷ z ∷ w ∷ []))
unfolding lex and_then
same_key a b c d x y z w r e =
    e
    ∙ rw (same_number a x, same_number b y, same_number c z, same_number d w)
    (ap (λ l. is_eq (cmp_n a x) && (is_eq (cmp_n b y) && l)) (last (cmp_n c z) (cmp_n d w))
    ∙ ap (λ l. is_eq (cmp_n a x) && l) (same_then (cmp_n b y) _)
    ∙ same_then (cmp_n a x) _)
  where
    last : (c d : Tri) → (is_eq c && is_eq d) ≡ is_eq (and_then c (and_then d eq))
    last c lt = same_then c lt
    last c eq = same_then c eq
    last c gt = same_then c gt

-- ---- what a record refers to

-- the record of the line at an offset by its two rows
pub refers_at : (s : List ℕ) (at i c : ℕ) (k : Kind) (own : Key) (first second : std.Option Key) → line_at s i ≡ line_at s at → k ≡ known (kind_of scottish (identifier (line_at s i))) → line_at s c ≡ after_fields 3 (line_at s i)
    → key_list own ≡ key_numbers (record { kind = k; content = line_at s c }) → referred_as first ≡ ref_at k (line_at s c) 0 → referred_as second ≡ ref_at k (line_at s c) 1
    → RefersAs (rec_of (line_at s at)) (record { own = own; to = first ∷ (second ∷ []) })
refers_at s at i c k own first second p q u v w x =
    let r : record { kind = k; content = line_at s c } ≡ rec_of (line_at s at) = rw u (rec_at s at i k p q) in
    subst (λ y. RefersAs y (record { own = own; to = first ∷ (second ∷ []) })) r (record { own = v; refs = rw (w, x) (sym (refs_are (record { kind = k; content = line_at s c }))) })

pub ruleset atrefers = (rules, refers_at)

-- an entry's record by its line
pub refers_entry : (x y : Rec) (r : Named) → x ≡ y → RefersAs x r → RefersAs y r
refers_entry x y r e u = subst (λ x. RefersAs x r) e u

pub ruleset entryrefers = (rules, refers_entry)
