-- Laws of one change: when it is not refused, what it leaves, and that its change back is allowed and undoes it.
use Rattle.std.specs.Prelude.{◌≡◌, refl, Bool, true, false, List, [], ◌∷◌, ℕ, T}
use Rattle.std.proofs.Math.Option.{Option, none, some, get_or}
use Rattle.base.specs.Lists.{ask}
use Rattle.base.specs.Tests.{some≢none, and_in, and_l, and_r}
use Rattle.theory.specs.Keyed.{Keyed}
use Rattle.theory.specs.Store.{get, Asc, At}
use Rattle.theory.proofs.StoreLaws.{at_get, get_put, put_back, asc_put}
use Rattle.theory.specs.Step.{Op, ins, upd, del, Change, new, allowed, inv, Test, passes, fails, Rules, at, after, back, judge}

-- ---- tests in order

-- no code is given where the test holds and the rest gives none
pub need_ok : (b : Bool) (w : ℕ) (o : Option ℕ) → T b → o ≡ none → ask b w o ≡ none
unfolding ask
need_ok true w o t e = e
need_ok false w o t e = absurd t

-- where no code is given the test holds and the rest gives none
pub ok_need : (b : Bool) (w : ℕ) (o : Option ℕ) → ask b w o ≡ none → T b × (o ≡ none)
unfolding ask
ok_need true w o e = (tt, e)
ok_need false w o e = absurd (some≢none e)

-- a state that passes every test fails none
pub passes_fails : {R : Type 0} (ts : List (Test R)) (st : List R) → T (passes ts st) → fails ts st ≡ none
unfolding fails
passes_fails [] st p = refl
passes_fails (t ∷ ts) st p = need_ok (t.1 st) t.0 (fails ts st) (and_l (t.1 st) (passes ts st) p) (passes_fails ts st (and_r (t.1 st) (passes ts st) p))

-- a state that fails no test passes every one
pub fails_passes : {R : Type 0} (ts : List (Test R)) (st : List R) → fails ts st ≡ none → T (passes ts st)
unfolding fails
fails_passes [] st e = tt
fails_passes (t ∷ ts) st e =
    let n = ok_need (t.1 st) t.0 (fails ts st) e in
    and_in (t.1 st) (passes ts st) n.0 (fails_passes ts st n.1)

module _ (K : Keyed) where
  open K use {Rec, key}

  -- ---- the state after a change

  -- what a change leaves may stand at its key
  pub at_new : (c : Change Rec) → At K (at K c) (new c.op c.rec)
  at_new c = go c.op
    where
      go : (o : Op) → At K (at K c) (new o c.rec)
      go ins = refl
      go upd = refl
      go del = tt

  -- what stands at a change's key afterwards is what it leaves
  pub get_after : (st : List Rec) (c : Change Rec) → Asc K st → get K (at K c) (after K st c) ≡ new c.op c.rec
  unfolding after
  get_after st c a = get_put K (at K c) _ st (at_new c) a

  -- keys still ascend after a change
  pub asc_after : (st : List Rec) (c : Change Rec) → Asc K st → Asc K (after K st c)
  unfolding after
  asc_after st c a = asc_put K (at K c) _ st (at_new c) a

  -- ---- the change back

  key_back : (r : Rec) (o : Option Rec) → At K (key r) o → key (get_or o r) ≡ key r
  key_back r none h = refl
  key_back r (some q) h = h

  new_back : (p : Op) (r : Rec) (o : Option Rec) → T (allowed p o) → new (inv p) (get_or o r) ≡ o
  new_back ins r none t = refl
  new_back ins r (some q) t = absurd t
  new_back upd r none t = absurd t
  new_back upd r (some q) t = refl
  new_back del r none t = absurd t
  new_back del r (some q) t = refl

  allowed_back : (p : Op) (r : Rec) → T (allowed (inv p) (new p r))
  allowed_back ins r = tt
  allowed_back upd r = tt
  allowed_back del r = tt

  -- a change that is allowed is undone by its change back
  pub after_back : (st : List Rec) (c : Change Rec) → Asc K st → T (allowed c.op (get K (at K c) st)) → after K (after K st c) (back K st c) ≡ st
  unfolding after back
  after_back st c a t =
      let o = get K (at K c) st in
      rw (key_back c.rec o (at_get K (at K c) st), new_back c.op c.rec o t) (put_back K (at K c) _ st (at_new c) a)

  -- the change back is allowed after the change
  pub back_allowed : (st : List Rec) (c : Change Rec) → Asc K st → T (allowed (back K st c).op (get K (at K (back K st c)) (after K st c)))
  unfolding back
  back_allowed st c a = rw (key_back c.rec (get K (at K c) st) (at_get K (at K c) st), get_after st c a) (allowed_back c.op c.rec)

  -- ---- when a change is not refused

  module _ (rules : Rules Rec) (st : List Rec) (c : Change Rec) where
    -- a change that is allowed, and after which every test is passed, is not refused
    pub judge_ok : T (allowed c.op (get K (at K c) st)) → T (passes rules.tests (after K st c)) → judge K rules st c ≡ none
    unfolding judge
    judge_ok t p = need_ok _ (rules.key_code c.op) _ t (passes_fails rules.tests (after K st c) p)

    -- a change that is not refused is allowed, and after it every test is passed
    pub ok_judge : judge K rules st c ≡ none → T (allowed c.op (get K (at K c) st)) × T (passes rules.tests (after K st c))
    unfolding judge
    ok_judge e = let n = ok_need (allowed c.op (get K (at K c) st)) (rules.key_code c.op) (fails rules.tests (after K st c)) e in (n.0, fails_passes rules.tests (after K st c) n.1)
