-- What a put does to a sum over the records and to a test of every record, in any order of keys.
use Rattle.std.specs.Prelude.{◌≡◌, refl, Bool, ℕ, ◌+◌, length}
use Rattle.std.proofs.Math.Option.{Option, none, some}
use mathlib.Core.List.{List, [], ◌∷◌}
use native.Mathlib.Omega.{arith}
use Rattle.std.proofs.Math.Dec.{T}
use Rattle.base.specs.Lists.{all}
use Rattle.base.specs.Tests.{and_in, and_l, and_r}
use Rattle.theory.specs.Tri.{Tri, lt, eq, gt}
use Rattle.theory.specs.Keyed.{Keyed}
use Rattle.theory.specs.Store.{cons?, put, puts, get, gets}
use Rattle.theory.specs.Fold.{sum, sum?, all?}

sum_cons : {A : Type 0} (w : A → ℕ) (o : Option A) (l : List A) → sum w (cons? o l) ≡ sum? w o + sum w l
sum_cons w none l = omega arith
sum_cons w (some r) l = refl

all_cons : {A : Type 0} (p : A → Bool) (o : Option A) (l : List A) → T (all? p o) → T (all p l) → T (all p (cons? o l))
all_cons p none l s t = t
all_cons p (some r) l s t = and_in (p r) (all p l) s t

cons_all? : {A : Type 0} (p : A → Bool) (o : Option A) (l : List A) → T (all p (cons? o l)) → T (all? p o)
cons_all? p none l t = tt
cons_all? p (some r) l t = and_l (p r) (all p l) t

sum_one : {R : Type 0} (st : List R) → sum (λ r. 1) st ≡ length st
sum_one [] = refl
sum_one (r ∷ rs) = omega (arith, sum_one rs)

module _ (K : Keyed) where
  open K use {Key, Rec, cmp, key}

  -- a put adds the new record's number to the sum and takes the old one's away
  pub sum_put : (w : Rec → ℕ) (k : Key) (o : Option Rec) (st : List Rec) → sum w (put K k o st) + sum? w (get K k st) ≡ sum w st + sum? w o
  unfolding put get
  sum_put w k o [] = omega (arith, sum_cons w o [])
  sum_put w k o (x ∷ xs) = go (cmp k (key x)) (sum_put w k o xs)
    where
      go : (c : Tri) → sum w (put K k o xs) + sum? w (get K k xs) ≡ sum w xs + sum? w o
          → sum w (puts K c o x xs (put K k o xs)) + sum? w (gets K c x (get K k xs)) ≡ w x + sum w xs + sum? w o
      go lt ih = omega (arith, sum_cons w o (x ∷ xs))
      go eq ih = omega (arith, sum_cons w o xs)
      go gt ih = omega arith

  -- a put adds the new record to the count and takes the old one away
  pub length_put : (k : Key) (o : Option Rec) (st : List Rec) → length (put K k o st) + sum? (λ r. 1) (get K k st) ≡ length st + sum? (λ r. 1) o
  length_put k o st = omega (arith, sum_put (λ r. 1) k o st, sum_one st, sum_one (put K k o st))

  -- a put of a record that passes, or of none, keeps the test of all
  pub all_put : (p : Rec → Bool) (k : Key) (o : Option Rec) (st : List Rec) → T (all? p o) → T (all p st) → T (all p (put K k o st))
  unfolding put
  all_put p k o [] s t = all_cons p o [] s t
  all_put p k o (x ∷ xs) s t = go (cmp k (key x)) (all_put p k o xs s (and_r (p x) (all p xs) t))
    where
      go : (c : Tri) → T (all p (put K k o xs)) → T (all p (puts K c o x xs (put K k o xs)))
      go lt ih = all_cons p o (x ∷ xs) s t
      go eq ih = all_cons p o xs s (and_r (p x) (all p xs) t)
      go gt ih = and_in (p x) (all p (put K k o xs)) (and_l (p x) (all p xs) t) ih

  -- where all pass after a put, what was put passes
  pub put_all? : (p : Rec → Bool) (k : Key) (o : Option Rec) (st : List Rec) → T (all p (put K k o st)) → T (all? p o)
  unfolding put
  put_all? p k o [] t = cons_all? p o [] t
  put_all? p k o (x ∷ xs) t = go (cmp k (key x)) (λ u. put_all? p k o xs u) t
    where
      go : (c : Tri) → (T (all p (put K k o xs)) → T (all? p o)) → T (all p (puts K c o x xs (put K k o xs))) → T (all? p o)
      go lt ih t = cons_all? p o (x ∷ xs) t
      go eq ih t = cons_all? p o xs t
      go gt ih t = ih (and_r (p x) (all p (put K k o xs)) t)

  -- where all pass, what is got passes
  pub get_all? : (p : Rec → Bool) (k : Key) (st : List Rec) → T (all p st) → T (all? p (get K k st))
  unfolding get
  get_all? p k [] t = tt
  get_all? p k (x ∷ xs) t = go (cmp k (key x)) (get_all? p k xs (and_r (p x) (all p xs) t))
    where
      go : (c : Tri) → T (all? p (get K k xs)) → T (all? p (gets K c x (get K k xs)))
      go lt ih = tt
      go eq ih = and_l (p x) (all p xs) t
      go gt ih = ih
