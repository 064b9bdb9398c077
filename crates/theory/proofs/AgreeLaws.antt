-- Laws of two keys of the same records: where they are compared alike, records are looked up, written and counted alike.
use Rattle.std.specs.Prelude.{◌≡◌, Bool, T}
use Rattle.std.proofs.Math.Path.{refl}
use Rattle.std.proofs.Common.{sym, ◌∙◌}
use Rattle.std.proofs.Math.Option.{Option}
use mathlib.Core.List.{List, [], ◌∷◌}
use Rattle.base.specs.Lists.{all}
use Rattle.base.specs.Tests.{and_l, and_r}
use Rattle.theory.specs.Tri.{Tri, lt, eq, gt}
use Rattle.theory.specs.Keyed.{Order, Keyed}
use Rattle.theory.specs.Store.{put, puts, get, gets, Low, Asc}
use Rattle.theory.specs.Rank.{rank, ranks}

-- the same records by another key
abbrev pub rekeyed : (K : Keyed) (J : Type 0) (cmp : J → J → Tri) → Order J cmp → (K.Rec → J) → Keyed
rekeyed K J cmp order key = record { Key = J; Rec = K.Rec; cmp = cmp; order = order; key = key }

module _ (K : Keyed) (J : Type 0) (cmp : J → J → Tri) (order : Order J cmp) (key : K.Rec → J) (p : K.Rec → Bool) where
  module _ (k : K.Key) (j : J) (alike : (x : K.Rec) → T (p x) → K.cmp k (K.key x) ≡ cmp j (key x)) where
    -- keys that are compared alike with the records of a state find the same one
    pub get_agree : (st : List K.Rec) → T (all p st) → get K k st ≡ get (rekeyed K J cmp order key) j st
    unfolding get gets
    get_agree [] t = refl
    get_agree (x ∷ xs) t = rw (alike x (and_l (p x) (all p xs) t), get_agree xs (and_r (p x) (all p xs) t)) (go (cmp j (key x)))
      where
        go : (c : Tri) → gets K c x (get (rekeyed K J cmp order key) j xs) ≡ gets (rekeyed K J cmp order key) c x (get (rekeyed K J cmp order key) j xs)
        go lt = refl
        go eq = refl
        go gt = refl

    -- they write at the same place
    pub put_agree : (o : Option K.Rec) (st : List K.Rec) → T (all p st) → put K k o st ≡ put (rekeyed K J cmp order key) j o st
    unfolding put puts
    put_agree o [] t = refl
    put_agree o (x ∷ xs) t = rw (alike x (and_l (p x) (all p xs) t), put_agree o xs (and_r (p x) (all p xs) t)) (go (cmp j (key x)))
      where
        go : (c : Tri) → puts K c o x xs (put (rekeyed K J cmp order key) j o xs) ≡ puts (rekeyed K J cmp order key) c o x xs (put (rekeyed K J cmp order key) j o xs)
        go lt = refl
        go eq = refl
        go gt = refl

    -- and the same records stand before them
    pub rank_agree : (st : List K.Rec) → T (all p st) → rank K k st ≡ rank (rekeyed K J cmp order key) j st
    unfolding rank ranks
    rank_agree [] t = refl
    rank_agree (x ∷ xs) t = rw (alike x (and_l (p x) (all p xs) t), rank_agree xs (and_r (p x) (all p xs) t)) (go (cmp j (key x)))
      where
        go : (c : Tri) → ranks K c (rank (rekeyed K J cmp order key) j xs) ≡ ranks (rekeyed K J cmp order key) c (rank (rekeyed K J cmp order key) j xs)
        go lt = refl
        go eq = refl
        go gt = refl

  -- where the records' own keys are compared alike, they ascend by the one as by the other
  pub asc_agree : ((x y : K.Rec) → T (p x) → T (p y) → K.cmp (K.key x) (K.key y) ≡ cmp (key x) (key y))
      → (st : List K.Rec) → T (all p st) → Asc K st → Asc (rekeyed K J cmp order key) st
  asc_agree alike [] t a = tt
  asc_agree alike (x ∷ xs) t a = (low xs (and_r (p x) (all p xs) t) a.0, asc_agree alike xs (and_r (p x) (all p xs) t) a.1)
    where
      low : (ys : List K.Rec) → T (all p ys) → Low K (K.key x) ys → Low (rekeyed K J cmp order key) (key x) ys
      low [] u h = tt
      low (y ∷ ys) u h = sym (alike x y (and_l (p x) (all p xs) t) (and_l (p y) (all p ys) u)) ∙ h
