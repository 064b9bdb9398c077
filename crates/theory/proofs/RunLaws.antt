-- Laws of runs: what stands at each key afterwards, what the end of a run says, and the way back.
use Rattle.std.specs.Prelude.{◌≡◌, Bool, ℕ, suc, T}
use Rattle.std.proofs.Math.Path.{refl, ap}
use Rattle.std.proofs.Common.{◌∙◌, subst, arith}
use Rattle.std.proofs.Math.Option.{Option, none, some, get_or}
use mathlib.Core.List.{List, [], ◌∷◌}
use Rattle.base.specs.Lists.{all, pick}
use Rattle.base.specs.Tests.{and_l, and_r, T_true}
use Rattle.base.specs.ListLaws.{all_snoc}
use Rattle.theory.specs.Keyed.{Keyed}
use Rattle.theory.specs.Store.{get, Asc}
use Rattle.theory.proofs.StoreLaws.{get_other}
use Rattle.theory.specs.Fold.{all?}
use Rattle.theory.proofs.FoldLaws.{all_put, get_all?}
use Rattle.theory.specs.Refs.{apart}
use Rattle.theory.proofs.RefsLaws.{by_key_lem, apart_ne}
use Rattle.theory.specs.Step.{Op, ins, upd, del, Change, Rules, new, at, after, back, judge}
use Rattle.theory.proofs.StepLaws.{judge_ok, ok_judge, after_back, back_allowed, get_after, asc_after, at_new}
use Rattle.theory.specs.Trail.{final, Through, undo}
use Rattle.theory.proofs.TrailLaws.{keep*, through*, same*, ok*}
use Rattle.theory.specs.Run.{Out, done, stop, on, last, free, fine_c, run, Ok, Taken, Good, Tells}

module _ (K : Keyed) where
  open K use {Key, Rec, order}

  -- ---- what stands at a key afterwards

  get_step : (k : Key) (st : List Rec) (c : Change Rec) → Asc K st → get K k (after K st c) ≡ pick (apart K k (at K c)) (get K k st) (new c.op c.rec)
  unfolding after apart
  get_step k st c a =
      by_key_lem K k (at K c) (λ e. rw (e, order.same (at K c)) (get_after K st c a))
      (λ d. rw (T_true (apart K k (at K c)) d) (get_other K k (at K c) _ st (apart_ne K k (at K c) d) (at_new K c) a))

  -- what stands at a key after a run is what the last change that names it leaves there
  pub get_final : (k : Key) (st : List Rec) (cs : List (Change Rec)) → Asc K st → get K k (final (after K) st cs) ≡ last K k cs (get K k st)
  unfolding last
  get_final k st [] a = refl
  get_final k st (c ∷ cs) a = get_final k (after K st c) cs (asc_after K st c a) ∙ ap (last K k cs) (get_step k st c a)

  -- where no change names the key, none of them decides what stands there
  pub unnamed : (k : Key) (cs : List (Change Rec)) (o : Option Rec) → T (free K k cs) → last K k cs o ≡ o
  unfolding last
  unnamed k [] o t = refl
  unnamed k (c ∷ cs) o t = rw (T_true (apart K k (at K c)) (and_l (apart K k (at K c)) _ t)) (unnamed k cs o (and_r (apart K k (at K c)) _ t))

  -- a key that no change names keeps its record
  pub frame : (k : Key) (st : List Rec) (cs : List (Change Rec)) → Asc K st → T (free K k cs) → get K k (final (after K) st cs) ≡ get K k st
  frame k st cs a t = get_final k st cs a ∙ unnamed k cs (get K k st) t

  -- ---- a test that every record passes

  module _ (fine : Rec → Bool) where
    fine_new : (c : Change Rec) → T (fine_c K fine c) → T (all? fine (new c.op c.rec))
    fine_new c t = go c.op
      where
        go : (o : Op) → T (all? fine (new o c.rec))
        go ins = t
        go upd = t
        go del = tt

    fine_after : (st : List Rec) (c : Change Rec) → T (all fine st) → T (fine_c K fine c) → T (all fine (after K st c))
    unfolding after
    fine_after st c s t = all_put K fine (at K c) _ st (fine_new c t) s

    -- where the records of the state and of the changes pass, those of the last state do
    pub fine_final : (st : List Rec) (cs : List (Change Rec)) → T (all fine st) → T (all (fine_c K fine) cs) → T (all fine (final (after K) st cs))
    fine_final st [] s t = s
    fine_final st (c ∷ cs) s t = fine_final (after K st c) cs (fine_after st c s (and_l (fine_c K fine c) _ t)) (and_r (fine_c K fine c) _ t)

    fine_get_d : (o : Option Rec) (r : Rec) → T (all? fine o) → T (fine r) → T (fine (get_or o r))
    fine_get_d none r s t = t
    fine_get_d (some q) r s t = s

    fine_back : (st : List Rec) (c : Change Rec) → T (all fine st) → T (fine_c K fine c) → T (fine_c K fine (back K st c))
    unfolding back
    fine_back st c s t = fine_get_d (get K (at K c) st) c.rec (get_all? K fine (at K c) st s) t

    -- and so do those of the changes back
    pub fine_undo : (st : List Rec) (cs : List (Change Rec)) → T (all fine st) → T (all (fine_c K fine) cs) → T (all (fine_c K fine) (undo (after K) (back K) st cs))
    fine_undo st [] s t = tt
    fine_undo st (c ∷ cs) s t =
        let h = and_l (fine_c K fine c) _ t in
        all_snoc (fine_c K fine) (undo (after K) (back K) (after K st c) cs) (back K st c) (fine_undo (after K st c) cs (fine_after st c s h) (and_r (fine_c K fine c) _ t)) (fine_back st c s h)

  module _ (rules : Rules Rec) where
    -- ---- what the end of a run says

    tells_cons : (n : ℕ) (st : List Rec) (c : Change Rec) (cs : List (Change Rec)) → Ok K rules st c → (o : Out (List Rec)) → Tells K rules (suc n) (after K st c) cs o → Tells K rules n st (c ∷ cs) o
    tells_cons n st c cs e (done s) t = ((e, t.0), t.1)
    tells_cons n st c cs e (stop l w) t =
        record { pre = c ∷ t.pre; bad = t.bad; post = t.post; whole = ap (λ x. c ∷ x) t.whole; taken = (e, t.taken); fault = t.fault; stands = omega (arith, t.stands) }

    -- a run that ends with a state was taken and ends with the last one; a run that stops does so at the first change that is refused, with its code
    pub tells : (n : ℕ) (st : List Rec) (cs : List (Change Rec)) → Tells K rules n st cs (run K rules n st cs)
    unfolding run
    tells n st [] = (tt, refl)
    tells n st (c ∷ cs) = go (judge K rules st c) refl (tells (suc n) (after K st c) cs)
      where
        rest : Out (List Rec)
        rest = run K rules (suc n) (after K st c) cs

        go : (o : Option ℕ) → judge K rules st c ≡ o → Tells K rules (suc n) (after K st c) cs rest → Tells K rules n st (c ∷ cs) (on o n rest)
        go none e t = tells_cons n st c cs e rest t
        go (some w) e t = record { pre = []; bad = c; post = cs; whole = refl; taken = tt; fault = e; stands = omega arith }

    -- a run that ends with a state was taken, and that state is the last
    pub taken_run : (n : ℕ) (st st' : List Rec) (cs : List (Change Rec)) → run K rules n st cs ≡ done st' → Taken K rules st cs × (st' ≡ final (after K) st cs)
    taken_run n st st' cs e = subst (Tells K rules n st cs) e (tells n st cs)

    -- changes of which none is refused run to the last state
    pub run_taken : (n : ℕ) (st : List Rec) (cs : List (Change Rec)) → Taken K rules st cs → run K rules n st cs ≡ done (final (after K) st cs)
    unfolding run
    run_taken n st [] g = refl
    run_taken n st (c ∷ cs) g = rw g.0 (run_taken (suc n) (after K st c) cs g.1)

    -- ---- sound states and the way back

    good_after : (st : List Rec) (c : Change Rec) → Good K rules st → Ok K rules st c → Good K rules (after K st c)
    good_after st c g e = record { asc = asc_after K st c g.asc; pass = (ok_judge K rules st c e).1 }

    good_same : (st : List Rec) (c : Change Rec) → Good K rules st → Ok K rules st c → after K (after K st c) (back K st c) ≡ st
    good_same st c g e = after_back K st c g.asc (ok_judge K rules st c e).0

    good_back : (st : List Rec) (c : Change Rec) → Good K rules st → Ok K rules st c → Ok K rules (after K st c) (back K st c)
    good_back st c g e = judge_ok K rules (after K st c) (back K st c) (back_allowed K st c g.asc) (rw (good_same st c g e) g.pass)

    -- from a sound state, by changes of which none is refused
    module _ (st : List Rec) (cs : List (Change Rec)) (g : Good K rules st) (t : Taken K rules st cs) where
      -- the last state is sound
      pub good_final : Good K rules (final (after K) st cs)
      good_final = keep* (after K) (back K) (Ok K rules) (Good K rules) good_after good_back good_same st cs g t

      -- every state is sound
      pub good_through : Through (after K) (Good K rules) st cs
      good_through = through* (after K) (back K) (Ok K rules) (Good K rules) good_after good_back good_same st cs g t

      -- no change back is refused
      pub undo_taken : Taken K rules (final (after K) st cs) (undo (after K) (back K) st cs)
      undo_taken = ok* (after K) (back K) (Ok K rules) (Good K rules) good_after good_back good_same st cs g t

      -- the changes back lead to the first state
      pub undo_same : final (after K) (final (after K) st cs) (undo (after K) (back K) st cs) ≡ st
      undo_same = same* (after K) (back K) (Ok K rules) (Good K rules) good_after good_back good_same st cs g t
