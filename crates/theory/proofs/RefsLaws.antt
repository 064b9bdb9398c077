-- Laws of references: what a put does to the keys that are there, and how one record's references decide for all.
use Rattle.std.specs.Prelude.{◌≡◌, ◌≢◌, List, T}
use Rattle.std.proofs.Math.Path.{refl, ap}
use Rattle.std.proofs.Common.{◌∙◌}
use Rattle.std.proofs.Math.Option.{Option, none, some}
use Rattle.base.specs.Lists.{all, some?}
use Rattle.base.specs.ListLaws.{all_map, all_both, all_cong}
use Rattle.base.specs.Tests.{and_cong, bools, same_test}
use Rattle.theory.specs.Tri.{Tri, lt, eq, gt}
use Rattle.theory.specs.Keyed.{Keyed}
use Rattle.theory.specs.Store.{put, get, Asc, At}
use Rattle.theory.proofs.StoreLaws.{get_put, get_other, put_back, at_get}
use Rattle.theory.specs.Fold.{all?}
use Rattle.theory.proofs.FoldLaws.{all_put, put_all?, get_all?}
use Rattle.theory.specs.Refs.{apart, has, meets, met, clear}

module _ (K : Keyed) where
  open K use {Key, Rec, cmp, order, key}

  -- ---- keys that are apart, or equal

  -- keys that are apart are not equal
  pub apart_ne : (j k : Key) → T (apart K j k) → j ≢ k
  unfolding apart
  apart_ne j k t e = rw (e, order.same k) at t

  -- two keys are equal or apart
  pub by_key_lem {ℓ} : {X : Type ℓ} (j k : Key) → (j ≡ k → X) → (T (apart K j k) → X) → X
  unfolding apart
  by_key_lem {X = X} j k f g = go (cmp j k) refl
    where
      go : (c : Tri) → cmp j k ≡ c → X
      go lt e = g (rw e tt)
      go eq e = f (order.equal j k e)
      go gt e = g (rw e tt)

  -- ---- the keys that are there after a put

  -- every key that was there is there after a record is put
  pub has_put : (r : Rec) (st : List Rec) → Asc K st → (j : Key) → T (has K st j) → T (has K (put K (key r) (some r) st) j)
  unfolding has
  has_put r st a j t =
      by_key_lem j (key r) (λ e. rw (e, get_put K (key r) (some r) st refl a) tt)
      (λ d. rw (get_other K j (key r) (some r) st (apart_ne j (key r) d) refl a) t)

  -- what is there after a delete is apart from the key that was deleted
  pub gone : (k : Key) (st : List Rec) → Asc K st → (j : Key) → T (has K (put K k none st) j) → T (apart K j k)
  unfolding has
  gone k st a j t = by_key_lem j k (λ e. absurd (rw (e, get_put K k none st tt a) at t)) (λ d. d)

  -- a key that is apart from the one that is deleted stays
  pub stays : (k : Key) (st : List Rec) → Asc K st → (j : Key) → T (apart K j k) → T (has K st j) → T (has K (put K k none st) j)
  unfolding has
  stays k st a j d t = rw (get_other K j k none st (apart_ne j k d) tt a) t

module _ (K : Keyed) (refs : K.Rec → List K.Key) where
  open K use {Key, Rec, key}

  -- ---- the references after a record is put

  meets_put : (r : Rec) (st : List Rec) → Asc K st → (q : Rec) → T (meets K refs st q) → T (meets K refs (put K (key r) (some r) st) q)
  unfolding meets
  meets_put r st a q = all_map _ _ (λ k t. search (bools, has_put K)) (refs q)

  own : (r : Rec) (o : Option Rec) (st : List Rec) → At K (key r) o → Asc K st → meets K refs (put K (key r) o st) r ≡ meets K refs st r
  unfolding meets has
  own r o st h a = all_cong _ _ (λ k. and_cong (apart K k (key r)) _ _ (λ t. ap some? (get_other K k (key r) o st (apart_ne K k (key r) t) h a))) (refs r)

  -- where all references are met, they are so after an insert or update just where the new record's are met before it
  pub met_put : (r : Rec) (st : List Rec) → Asc K st → T (met K refs st) → met K refs (put K (key r) (some r) st) ≡ meets K refs st r
  unfolding met
  met_put r st a m =
      let st' = put K (key r) (some r) st in
      same_test (met K refs st') (meets K refs st' r) (put_all? K (meets K refs st') (key r) (some r) st)
      (λ t. all_put K (meets K refs st') (key r) (some r) st t (all_map (meets K refs st) (meets K refs st') (meets_put r st a) st m))
      ∙ own r (some r) st refl a

  -- ---- the references after a delete

  met_left : (k : Key) (st : List Rec) → Asc K st → T (met K refs st) → met K refs (put K k none st) ≡ all (clear K refs k) (put K k none st)
  unfolding met meets clear
  met_left k st a m =
      let st' = put K k none st in
      same_test (met K refs st') (all (clear K refs k) st')
      (all_map (meets K refs st') (clear K refs k) (λ q. all_map _ _ (λ j t. search (bools, gone K)) (refs q)) st')
      (λ t. all_both (meets K refs st) (clear K refs k) (meets K refs st') (λ q. all_both _ _ _ (λ j s d. search (bools, stays K)) (refs q)) st' (all_put K (meets K refs st) k none st tt m) t)

  self_clear : (k : Key) (st : List Rec) (o : Option Rec) → At K k o → T (all? (meets K refs st) o) → T (all? (clear K refs k) o)
  unfolding meets clear
  self_clear k st none h t = tt
  self_clear k st (some q) h t = all_map _ _ (λ j t. rw (← h) (search bools)) (refs q) t

  -- where all references are met, they are so after a delete just where no record refers to its key before it
  pub met_del : (k : Key) (st : List Rec) → Asc K st → T (met K refs st) → met K refs (put K k none st) ≡ all (clear K refs k) st
  unfolding met
  met_del k st a m =
      let st' = put K k none st in
      met_left k st a m
      ∙ same_test (all (clear K refs k) st') (all (clear K refs k) st)
      (λ t. rw (put_back K k none st tt a) at (all_put K (clear K refs k) k (get K k st) st' (self_clear k st (get K k st) (at_get K k st) (get_all? K (meets K refs st) k st m)) t))
      (all_put K (clear K refs k) k none st tt)
