-- Laws of steps and the way back: where each step can be taken back, so can any run of them, through the same states.
use Rattle.std.specs.Prelude.{◌≡◌, refl, List, [], ◌∷◌, ◌++◌, length}
use Rattle.std.proofs.Common.{◌∙◌, arith, length-append}
use Rattle.theory.specs.Trail.{final, Each, Through, undo}

module _ {S C : Type 0} (after : S → C → S) where
  -- ---- steps after steps

  -- steps after steps end where the second end that start where the first end
  pub final_append : (s : S) (xs ys : List C) → final after s (xs ++ ys) ≡ final after (final after s xs) ys
  final_append s [] ys = refl
  final_append s (x ∷ xs) ys = final_append (after s x) xs ys

  -- steps after steps are allowed where both are
  pub each_append : (Ok : S → C → Type 0) (s : S) (xs ys : List C) → Each after Ok s xs → Each after Ok (final after s xs) ys → Each after Ok s (xs ++ ys)
  each_append Ok s [] ys a b = b
  each_append Ok s (x ∷ xs) ys a b = (a.0, each_append Ok (after s x) xs ys a.1 b)

  -- the way back has as many steps
  pub length_undo : (back : S → C → C) (s : S) (cs : List C) → length (undo after back s cs) ≡ length cs
  length_undo back s [] = refl
  length_undo back s (c ∷ cs) = length-append (undo after back (after s c) cs) (back s c ∷ []) ∙ omega (arith, length_undo back (after s c) cs)

  -- ---- what holds of each step holds of a run

  -- an allowed step keeps `Inv`, its step back is allowed, and leads to the same state
  module _ (back : S → C → C) (Ok : S → C → Type 0) (Inv : S → Type 0)
      (keep : (s : S) (c : C) → Inv s → Ok s c → Inv (after s c))
      (ok : (s : S) (c : C) → Inv s → Ok s c → Ok (after s c) (back s c))
      (same : (s : S) (c : C) → Inv s → Ok s c → after (after s c) (back s c) ≡ s) where
    -- the last state has what each allowed step keeps
    pub keep* : (s : S) (cs : List C) → Inv s → Each after Ok s cs → Inv (final after s cs)
    keep* s [] i g = i
    keep* s (c ∷ cs) i g = keep* (after s c) cs (keep s c i g.0) g.1

    -- every state has what each allowed step keeps
    pub through* : (s : S) (cs : List C) → Inv s → Each after Ok s cs → Through after Inv s cs
    through* s [] i g = i
    through* s (c ∷ cs) i g = (i, through* (after s c) cs (keep s c i g.0) g.1)

    -- the way back ends in the first state
    pub same* : (s : S) (cs : List C) → Inv s → Each after Ok s cs → final after (final after s cs) (undo after back s cs) ≡ s
    same* s [] i g = refl
    same* s (c ∷ cs) i g =
        let s' = after s c in
        final_append (final after s' cs) (undo after back s' cs) (back s c ∷ []) ∙ rw (same* s' cs (keep s c i g.0) g.1) (same s c i g.0)

    -- every step of the way back is allowed
    pub ok* : (s : S) (cs : List C) → Inv s → Each after Ok s cs → Each after Ok (final after s cs) (undo after back s cs)
    ok* s [] i g = tt
    ok* s (c ∷ cs) i g =
        let s' = after s c in
        let i' = keep s c i g.0 in
        each_append Ok (final after s' cs) (undo after back s' cs) (back s c ∷ []) (ok* s' cs i' g.1)
        (rw (same* s' cs i' g.1) (ok s c i g.0, tt))
