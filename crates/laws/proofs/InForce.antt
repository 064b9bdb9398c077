-- The record in force is what a load would leave at that key if the file were taken.
use Rattle.std.specs.Prelude.{◌≡◌, Bool, ℕ, suc, T, length}
use Rattle.std.proofs.Math.Path.{refl, sym}
use Rattle.std.proofs.Common.{◌∙◌, subst, arith}
use Rattle.std.proofs.Math.Bool.{true, false}
use Rattle.std.proofs.Math.Option.{Option, none, some}
use mathlib.Core.List.{List, [], ◌∷◌, ◌++◌, append_assoc}
use Rattle.std.proofs.Math.ListN.{length-append}
use Rattle.base.specs.ListLaws.{same_refl, same_eq}
use Rattle.base.specs.Lists.{pick, same}
use Rattle.base.specs.Tests.{T_true}
use Rattle.theory.specs.Store.{get}
use Rattle.theory.specs.Refs.{apart}
use Rattle.theory.specs.Step.{Op, Change, new}
use Rattle.theory.specs.Run.{last}
use Rattle.theory.specs.LexLaws.{lex_order}
use Rattle.theory.proofs.RefsLaws.{by_key_lem, apart_ne}
use Rattle.meaning.specs.Format.{Format}
use Rattle.meaning.specs.Records.{Rec, keyed, key_of}
use Rattle.meaning.specs.Enquiries.{last_naming}
use Rattle.laws.specs.Regular.{Regular}
use Rattle.laws.specs.Demand2.{Allowed, after_all}
use Rattle.laws.proofs.Demand2.{last_line}
use Rattle.laws.specs.InForce.{NamedSays}

module _ (F : Format) where
  -- keys that are apart are not the same
  pub apart_same : (q k : List ℕ) → T (apart (keyed F) q k) → same q k ≡ false
  apart_same q k d = go (same q k) refl
    where
      go : (c : Bool) → same q k ≡ c → c ≡ false
      go true e = absurd (apart_ne (keyed F) q k d (same_eq q k (rw e tt)))
      go false e = refl

  naming : (q : List ℕ) (st : List Rec) (whole pre cs : List (Change Rec)) (i : ℕ) (o : Option (ℕ × Op)) (v : Option Rec) → whole ≡ pre ++ cs → i ≡ suc (length pre)
      → NamedSays F q st whole o v → NamedSays F q st whole (last_naming F q i cs o) (last (keyed F) q cs v)
  unfolding last_naming last
  naming q st whole pre [] i o v e n s = s
  naming q st whole pre (c ∷ cs) i o v e n s =
      let k = key_of F c.rec in
      naming q st whole (pre ++ (c ∷ [])) cs (suc i) (pick (same q k) (some (i, c.op)) o) (pick (apart (keyed F) q k) v (new c.op c.rec))
      (e ∙ sym (append_assoc pre (c ∷ []) cs)) (omega (arith, n, length-append pre (c ∷ [])))
      (by_key_lem (keyed F) q k (here v) (λ d. rw (apart_same q k d, T_true (apart (keyed F) q k) d) s))
    where
      here : (v : Option Rec) → q ≡ key_of F c.rec
          → NamedSays F q st whole (pick (same q (key_of F c.rec)) (some (i, c.op)) o) (pick (apart (keyed F) q (key_of F c.rec)) v (new c.op c.rec))
      here v h =
          let k = key_of F c.rec in
          let a : apart (keyed F) q k ≡ false = unfold apart in rw (h, lex_order.same k) refl in
          let b : same q k ≡ true = rw h (T_true (same k k) (same_refl k)) in
          rw (a, b) (pre, c, cs, e, n, refl, h, refl)

  -- the last body line naming a key decides what stands there afterwards
  pub last_naming_lem : (q : List ℕ) (st : List Rec) (cs : List (Change Rec)) → NamedSays F q st cs (last_naming F q 1 cs none) (last (keyed F) q cs (get (keyed F) q st))
  last_naming_lem q st cs = naming q st cs [] cs 1 none (get (keyed F) q st) refl refl refl

  module _ (regular : Regular F) where
    -- so if a file is taken, the record in force is the one in the new holding
    pub in_force_lem : (old b : List ℕ) (room : ℕ) (a : Allowed F old b room) (q : List ℕ) → NamedSays F q a.st a.cs (last_naming F q 1 a.cs none) (get (keyed F) q (after_all F a))
    in_force_lem old b room a q = subst (NamedSays F q a.st a.cs (last_naming F q 1 a.cs none)) (sym (last_line F regular old b room a q)) (last_naming_lem q a.st a.cs)
