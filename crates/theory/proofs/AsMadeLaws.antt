-- Laws of changes as they were made: the way back from the way back is these.
use Rattle.std.proofs.Math.Path.{◌≡◌, refl}
use Rattle.std.proofs.Common.{sym, ap, ◌∙◌, append_assoc, append-nil}
use Rattle.std.proofs.Math.Option.{Option, none, some, get_or}
use Rattle.std.specs.Prelude.{List, [], ◌∷◌, ◌++◌, suc, length}
use Rattle.theory.specs.Keyed.{Keyed}
use Rattle.theory.specs.Store.{get, Asc, At}
use Rattle.theory.proofs.StoreLaws.{at_get}
use Rattle.theory.specs.Step.{Op, ins, upd, del, Change, Rules, new, inv, at, after, back}
use Rattle.theory.proofs.StepLaws.{get_after}
use Rattle.theory.specs.Trail.{final, undo}
use Rattle.theory.specs.Run.{Taken, Good}
use Rattle.theory.specs.AsMade.{rec_made, made, as_made}
use Rattle.theory.proofs.RunLaws.{undo_same, good_final}

-- the way back of steps after steps: that of the second, then that of the first
pub undo_append : {S C : Type 0} (after : S → C → S) (back : S → C → C) (s : S) (xs ys : List C)
    → undo after back s (xs ++ ys) ≡ undo after back (final after s xs) ys ++ undo after back s xs
undo_append after back s [] ys = sym (append-nil (undo after back s ys))
undo_append after back s (x ∷ xs) ys =
    ap (λ l. l ++ (back s x ∷ [])) (undo_append after back (after s x) xs ys)
    ∙ append_assoc (undo after back (final after (after s x) xs) ys) (undo after back (after s x) xs) (back s x ∷ [])

module _ (K : Keyed) where
  open K use {Rec, key}

  key_back : (r : Rec) (o : Option Rec) → At K (key r) o → key (get_or o r) ≡ key r
  key_back r none h = refl
  key_back r (some q) h = h

  -- the change back from a change back is the change as it was made
  pub back_back : (st : List Rec) (c : Change Rec) → Asc K st → back K (after K st c) (back K st c) ≡ made K st c
  unfolding back made
  back_back st c a = rw (key_back c.rec (get K (at K c) st) (at_get K (at K c) st), get_after K st c a) (go c.op c.rec (get K (at K c) st))
    where
      go : (o : Op) (r : Rec) (p : Option Rec) → ◌≡◌ {A = Change Rec} (record { op = inv (inv o); rec = get_or (new o r) (get_or p r) }) (record { op = o; rec = rec_made K o r p })
      go ins r p = refl
      go upd r p = refl
      go del r p = refl

  -- as many changes as were made
  pub length_made : (st : List Rec) (cs : List (Change Rec)) → length (as_made K st cs) ≡ length cs
  length_made st [] = refl
  length_made st (c ∷ cs) = ap suc (length_made (after K st c) cs)

  module _ (rules : Rules Rec) where
    -- the way back from the way back, from a sound state and by changes of which none is refused, is the changes as they were made
    pub undo_undo : (st : List Rec) (cs : List (Change Rec)) → Good K rules st → Taken K rules st cs
        → undo (after K) (back K) (final (after K) st cs) (undo (after K) (back K) st cs) ≡ as_made K st cs
    undo_undo st [] g t = refl
    undo_undo st (c ∷ cs) g t =
        let s = after K st c in
        let h = good_final K rules st (c ∷ []) g (t.0, tt) in
        undo_append (after K) (back K) (final (after K) s cs) (undo (after K) (back K) s cs) (back K st c ∷ [])
        ∙ rw (undo_same K rules s cs h t.1, back_back st c g.asc, undo_undo s cs h t.1)
