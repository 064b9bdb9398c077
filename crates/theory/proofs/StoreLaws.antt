-- Laws of put and get: what is put is got, other keys keep their records, and the order is kept.
use Rattle.std.specs.Prelude.{◌≡◌, ◌≢◌}
use Rattle.std.proofs.Math.Path.{refl, sym, ap}
use Rattle.std.proofs.Common.{◌∙◌}
use Rattle.std.proofs.Math.Option.{Option, none, some}
use mathlib.Core.List.{List, [], ◌∷◌}
use Rattle.theory.specs.Tri.{Tri, lt, eq, gt, flip}
use Rattle.theory.specs.Keyed.{Keyed}
use Rattle.theory.specs.Store.{cons?, put, puts, get, gets, Low, Asc, At}

module _ (K : Keyed) where
  open K use {Key, Rec, cmp, order, key}

  -- ---- a key before all records

  -- a key before one that stands before all records does so too
  pub low_down : (j k : Key) (st : List Rec) → cmp j k ≡ lt → Low K k st → Low K j st
  low_down j k [] e l = tt
  low_down j k (x ∷ xs) e l = order.chain j k (key x) e l

  -- a key equal to the first record's stands before the rest
  pub low_same : (k : Key) (x : Rec) (xs : List Rec) → cmp k (key x) ≡ eq → Low K (key x) xs → Low K k xs
  low_same k x xs e l = rw (order.equal k (key x) e) l

  -- nothing stands at a key before all records
  pub get_low : (k : Key) (st : List Rec) → Low K k st → get K k st ≡ none
  unfolding get
  get_low k [] l = refl
  get_low k (x ∷ xs) l = rw l

  put_low : (k : Key) (o : Option Rec) (st : List Rec) → Low K k st → put K k o st ≡ cons? o st
  unfolding put
  put_low k o [] l = refl
  put_low k o (x ∷ xs) l = rw l

  -- ---- what is put is what is got

  -- putting back what stands there changes nothing
  pub put_same : (k : Key) (st : List Rec) → put K k (get K k st) st ≡ st
  unfolding put get
  put_same k [] = refl
  put_same k (x ∷ xs) = go (cmp k (key x)) (put_same k xs)
    where
      go : (c : Tri) → put K k (get K k xs) xs ≡ xs → puts K c (gets K c x (get K k xs)) x xs (put K k (gets K c x (get K k xs)) xs) ≡ x ∷ xs
      go lt ih = refl
      go eq ih = refl
      go gt ih = ap (λ l. x ∷ l) ih

  -- what is got at a key has that key
  pub at_get : (k : Key) (st : List Rec) → At K k (get K k st)
  unfolding get
  at_get k [] = tt
  at_get k (x ∷ xs) = go (cmp k (key x)) refl (at_get k xs)
    where
      go : (c : Tri) → cmp k (key x) ≡ c → At K k (get K k xs) → At K k (gets K c x (get K k xs))
      go lt e ih = tt
      go eq e ih = sym (order.equal k (key x) e)
      go gt e ih = ih

  get_cons : (k : Key) (o : Option Rec) (st : List Rec) → At K k o → Low K k st → get K k (cons? o st) ≡ o
  unfolding get
  get_cons k none st h l = get_low k st l
  get_cons k (some r) st h l = rw (h, order.same k)

  put_cons : (k : Key) (o p : Option Rec) (st : List Rec) → At K k p → Low K k st → put K k o (cons? p st) ≡ cons? o st
  unfolding put
  put_cons k o none st h l = put_low k o st l
  put_cons k o (some r) st h l = rw (h, order.same k)

  -- what was put at a key is what is got there
  pub get_put : (k : Key) (o : Option Rec) (st : List Rec) → At K k o → Asc K st → get K k (put K k o st) ≡ o
  unfolding put get
  get_put k o [] h a = get_cons k o [] h tt
  get_put k o (x ∷ xs) h a = go (cmp k (key x)) refl (get_put k o xs h a.1)
    where
      go : (c : Tri) → cmp k (key x) ≡ c → get K k (put K k o xs) ≡ o → get K k (puts K c o x xs (put K k o xs)) ≡ o
      go lt e ih = get_cons k o (x ∷ xs) h e
      go eq e ih = get_cons k o xs h (low_same k x xs e a.0)
      go gt e ih = rw e ih

  -- of two puts at a key the last counts
  pub put_put : (k : Key) (o p : Option Rec) (st : List Rec) → At K k p → Asc K st → put K k o (put K k p st) ≡ put K k o st
  unfolding put
  put_put k o p [] h a = put_cons k o p [] h tt
  put_put k o p (x ∷ xs) h a = go (cmp k (key x)) refl (put_put k o p xs h a.1)
    where
      go : (c : Tri) → cmp k (key x) ≡ c → put K k o (put K k p xs) ≡ put K k o xs → put K k o (puts K c p x xs (put K k p xs)) ≡ puts K c o x xs (put K k o xs)
      go lt e ih = put_cons k o p (x ∷ xs) h e
      go eq e ih = put_cons k o p xs h (low_same k x xs e a.0)
      go gt e ih = rw (e, ih)

  -- putting back what stood there undoes a put
  pub put_back : (k : Key) (o : Option Rec) (st : List Rec) → At K k o → Asc K st → put K k (get K k st) (put K k o st) ≡ st
  put_back k o st h a = put_put k (get K k st) o st h a ∙ put_same k st

  -- ---- another key

  get_skip : (j k : Key) (o : Option Rec) (st : List Rec) → j ≢ k → At K k o → Low K k st → get K j (cons? o st) ≡ get K j st
  unfolding get
  get_skip j k none st d h l = refl
  get_skip j k (some r) st d h l = rw h (go (cmp j k) refl)
    where
      go : (c : Tri) → cmp j k ≡ c → gets K c r (get K j st) ≡ get K j st
      go lt e = sym (get_low j st (low_down j k st e l))
      go eq e = absurd (d (order.equal j k e))
      go gt e = refl

  -- a put at one key leaves what stands at another
  pub get_other : (j k : Key) (o : Option Rec) (st : List Rec) → j ≢ k → At K k o → Asc K st → get K j (put K k o st) ≡ get K j st
  unfolding put get
  get_other j k o [] d h a = get_skip j k o [] d h tt
  get_other j k o (x ∷ xs) d h a = go (cmp k (key x)) refl (get_other j k o xs d h a.1)
    where
      go : (c : Tri) → cmp k (key x) ≡ c → get K j (put K k o xs) ≡ get K j xs → get K j (puts K c o x xs (put K k o xs)) ≡ get K j (x ∷ xs)
      go lt e ih = get_skip j k o (x ∷ xs) d h e
      go eq e ih = let l : Low K k xs = low_same k x xs e a.0 in get_skip j k o xs d h l ∙ sym (get_skip j k (some x) xs d (sym (order.equal k (key x) e)) l)
      go gt e ih = ap (gets K (cmp j (key x)) x) ih

  -- ---- the order is kept

  low_cons : (j k : Key) (o : Option Rec) (st : List Rec) → cmp j k ≡ lt → At K k o → Low K j st → Low K j (cons? o st)
  low_cons j k none st e h l = l
  low_cons j k (some r) st e h l = rw h e

  asc_cons : (k : Key) (o : Option Rec) (st : List Rec) → At K k o → Low K k st → Asc K st → Asc K (cons? o st)
  asc_cons k none st h l a = a
  asc_cons k (some r) st h l a = (rw h l, a)

  low_put : (j k : Key) (o : Option Rec) (st : List Rec) → cmp j k ≡ lt → At K k o → Low K j st → Asc K st → Low K j (put K k o st)
  unfolding put
  low_put j k o [] e h l a = low_cons j k o [] e h tt
  low_put j k o (x ∷ xs) e h l a = go (cmp k (key x))
    where
      go : (c : Tri) → Low K j (puts K c o x xs (put K k o xs))
      go lt = low_cons j k o (x ∷ xs) e h l
      go eq = low_cons j k o xs e h (low_down j (key x) xs l a.0)
      go gt = l

  -- keys still ascend after a put
  pub asc_put : (k : Key) (o : Option Rec) (st : List Rec) → At K k o → Asc K st → Asc K (put K k o st)
  unfolding put
  asc_put k o [] h a = asc_cons k o [] h tt tt
  asc_put k o (x ∷ xs) h a = go (cmp k (key x)) refl (asc_put k o xs h a.1)
    where
      go : (c : Tri) → cmp k (key x) ≡ c → Asc K (put K k o xs) → Asc K (puts K c o x xs (put K k o xs))
      go lt e ih = asc_cons k o (x ∷ xs) h e a
      go eq e ih = asc_cons k o xs h (low_same k x xs e a.0) a.1
      go gt e ih = (low_put (key x) k o xs (order.turn k (key x) ∙ ap flip e) h a.0 a.1, ih)
