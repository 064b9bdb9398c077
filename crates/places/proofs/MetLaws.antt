-- The laws of references among the records in force: one is met or not, and whether both of a record are.
use mathlib.Core.Path.{◌≡◌, refl, sym, ◌∙◌}
use mathlib.Core.Bool.{Bool, true, false, ◌&&◌}
use mathlib.Core.List.{List, [], ◌∷◌}
use Rattle.std.specs.Prelude as std
use Rattle.std.specs.Prelude.{Some, None}
use Prim.Native.Nat.{ℕ, ◌≤◌, ◌<◌}
use lib.ListN.{length, get_or, drop, drop_of_length-le}
use lib.Seq.{drop-cons}
use borrow.Author.Rules.{rules}
use lib.Dec.{T}
use Rattle.base.specs.Lists.{all, some?}
use Rattle.theory.specs.Tri.{is_eq}
use Rattle.theory.specs.Lex.{lex}
use Rattle.theory.specs.Store.{get}
use Rattle.theory.specs.Refs.{apart, has, meets}
use Rattle.meaning.specs.Table.{scottish}
use Rattle.meaning.specs.Records.{Rec, keyed, refs_of}
use Rattle.laws.specs.Body.{fine}
use Rattle.keys.specs.declared.Key.{Key}
use Rattle.keys.specs.Numbers.{key_list, referred_as, ref_numbers, numbered}
use Rattle.keys.proofs.KeyLaws.{meets_agree}
use Rattle.entries.specs.declared.references.Named.{Named}
use Rattle.entries.specs.References.{keys_as, RefersAs}
use Rattle.places.specs.Places.{met_by}

-- ---- one reference

module _ (st : List Rec) (own : List ℕ) (to : std.Option Key) where
  -- nothing is met
  pub met_nothing : to ≡ None → true ≡ met_by st own (referred_as to)
  unfolding met_by
  met_nothing e = rw e

  module _ (k : Key) (e : to ≡ Some k) (b : Bool) (q : b ≡ is_eq (lex (key_list k) own)) where
    -- its own key is not
    pub met_own : b ≡ true → false ≡ met_by st own (referred_as to)
    unfolding met_by apart
    met_own t = rw (e, sym q ∙ t)

    -- another is where a record stands at it
    pub met_told : (c : Bool) → b ≡ false → c ≡ some? (get numbered (key_list k) st) → c ≡ met_by st own (referred_as to)
    unfolding met_by apart has
    met_told c t s = rw (e, sym q ∙ t) s

pub ruleset onemet = (rules, met_nothing, met_own, met_told)

-- ---- whether it is met

-- one of a record whose key is `own` is, as code has it
abbrev pub met_as : List Rec → List ℕ → std.Option Key → Bool
met_as st own o = met_by st own (referred_as o)

-- it is where those of all rows are
pub meets_rows : (st : List Rec) (x : Rec) (r : Named) → RefersAs x r → meets numbered ref_numbers st x ≡ all (met_as st (key_list r.own)) r.to
unfolding meets met_by
meets_rows st x r e = rw (← e.refs, ← e.own) (go r.to)
  where
    go : (os : List (std.Option Key)) → all (λ k. apart numbered k (key_list r.own) && has numbered st k) (keys_as os) ≡ all (met_as st (key_list r.own)) os
    go [] = refl
    go (None ∷ os) = go os
    go (Some k ∷ os) = rw (go os)

module _ {A : Type 0} (p : A → Bool) (l : List A) (i : ℕ) (e : all p (drop i l) ≡ all p l) where
  -- one that is not says it
  pub rest_unmet : (d : A) → i < length l → p (get_or l i d) ≡ false → false ≡ all p l
  rest_unmet d h q = rw (drop-cons l i d h, q) at e

  -- where none is left all are
  pub rest_none : length l ≤ i → true ≡ all p l
  rest_none h = rw (drop_of_length-le l {i = i} h) at e

module _ (st : List Rec) (x : Rec) (r : Named) (e : RefersAs x r) (p : T (all (fine scottish) st)) (g : T (fine scottish x)) where
  -- so it is of keys
  pub meets_told : (b : Bool) → b ≡ all (met_as st (key_list r.own)) r.to → b ≡ meets (keyed scottish) (refs_of scottish) st x
  meets_told b q = q ∙ sym (meets_rows st x r e) ∙ meets_agree st p x g
