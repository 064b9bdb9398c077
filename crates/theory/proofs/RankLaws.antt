-- Laws of places: what a scan past smaller keys finds, where a put takes place, and what a search must show of the place it found.
use Rattle.std.specs.Prelude.{◌≡◌, not, ◌+◌, length, drop}
use Rattle.std.proofs.Math.Path.{refl, ap}
use Rattle.std.proofs.Common.{◌∙◌}
use Rattle.std.proofs.Math.Option.{Option}
use mathlib.Core.List.{List, [], ◌∷◌, ◌++◌}
use native.Mathlib.Omega.{arith}
use Rattle.std.proofs.Math.Nat.{suc-add}
use Rattle.std.proofs.Math.Dec.{T}
use Rattle.std.proofs.Math.ListN.{take}
use Rattle.base.specs.Lists.{all}
use Rattle.base.specs.Tests.{and_in, and_l, and_r}
use Rattle.theory.specs.Tri.{Tri, lt, eq, gt, flip, is_gt}
use Rattle.theory.specs.TriLaws.{is_gt_lem}
use Rattle.theory.specs.Keyed.{Keyed}
use Rattle.theory.specs.Store.{cons?, put, puts, get, gets, Asc}
use Rattle.theory.specs.Rank.{hit, ahead, ranks, rank}

module _ (K : Keyed) where
  open K use {Key, Rec, cmp, order, key}

  -- a put keeps the records before the key and those after it, and sets what stands at the key between them
  pub put_at : (k : Key) (o : Option Rec) (st : List Rec) → put K k o st ≡ take (rank K k st) st ++ cons? o (drop (rank K k st + hit (get K k st)) st)
  unfolding put get rank
  put_at k o [] = refl
  put_at k o (x ∷ xs) = go (cmp k (key x)) (put_at k o xs)
    where
      go : (c : Tri) → put K k o xs ≡ take (rank K k xs) xs ++ cons? o (drop (rank K k xs + hit (get K k xs)) xs)
          → puts K c o x xs (put K k o xs) ≡ take (ranks K c (rank K k xs)) (x ∷ xs) ++ cons? o (drop (ranks K c (rank K k xs) + hit (gets K c x (get K k xs))) (x ∷ xs))
      go lt ih = refl
      go eq ih = refl
      go gt ih = rw suc-add (ap (λ l. x ∷ l) ih)

  -- ---- what a search must show

  -- records that stand before the key are counted
  pub rank_scan : (k : Key) (pre post : List Rec) → T (all (ahead K k) pre) → rank K k (pre ++ post) ≡ length pre + rank K k post
  unfolding rank ranks ahead
  rank_scan k [] post t = omega arith
  rank_scan k (x ∷ xs) post t = rw (is_gt_lem (cmp k (key x)) (and_l (ahead K k x) _ t)) (omega (arith, rank_scan k xs post (and_r (ahead K k x) _ t)))

  -- the count ends at the first record that does not stand before the key
  pub rank_stop : (k : Key) (y : Rec) (post : List Rec) → T (not (ahead K k y)) → rank K k (y ∷ post) ≡ 0
  unfolding rank ranks ahead
  rank_stop k y post t = go (cmp k (key y)) t
    where
      go : (c : Tri) → T (not (is_gt c)) → ranks K c (rank K k post) ≡ 0
      go lt t = refl
      go eq t = refl
      go gt t = absurd t

  asc_over : (x y : Rec) (l post : List Rec) → Asc K (x ∷ (l ++ y ∷ post)) → cmp (key x) (key y) ≡ lt
  asc_over x y [] post a = a.0
  asc_over x y (z ∷ l) post a = order.chain (key x) (key z) (key y) a.0 (asc_over z y l post a.1)

  -- where one record stands before the key all records before it do: a search by halves need look at one only
  pub ahead_before : (k : Key) (pre : List Rec) (y : Rec) (post : List Rec) → Asc K (pre ++ y ∷ post) → T (ahead K k y) → T (all (ahead K k) pre)
  unfolding ahead
  ahead_before k [] y post a t = tt
  ahead_before k (x ∷ pre) y post a t =
      let below : cmp (key y) k ≡ lt = order.turn k (key y) ∙ ap flip (is_gt_lem (cmp k (key y)) t) in
      let less : cmp (key x) k ≡ lt = order.chain (key x) (key y) k (asc_over x y pre post a) below in
      and_in (ahead K k x) (all (ahead K k) pre) (rw (order.turn (key x) k, less) tt) (ahead_before k pre y post a.1 t)
