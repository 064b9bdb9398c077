-- The laws of what stands at the key of an entry's record.
use mathlib.Core.Path.{◌≡◌, refl, sym, ap, ◌∙◌, subst}
use mathlib.Core.Bool.{Bool, true, false, not}
use Rattle.std.specs.Prelude.{Result, Ok, Err}
use mathlib.Core.Option.{some}
use mathlib.Core.List.{List, ◌∷◌}
use Prim.Native.Nat.{ℕ, suc, ◌≤◌}
use lib.Dec.{T}
use lib.ListN.{length, get_or, drop}
use Rattle.base.specs.Lists.{all, some?}
use Rattle.base.specs.Tests.{T_true}
use Rattle.theory.specs.Tri.{Tri, lt, eq, gt, is_gt}
use Rattle.theory.specs.Lex.{lex}
use Rattle.theory.specs.Store.{get, gets}
use Rattle.theory.specs.Rank.{rank}
use Rattle.meaning.specs.Table.{scottish}
use Rattle.meaning.specs.Records.{Rec, keyed, key_of}
use Rattle.laws.specs.Body.{fine}
use Rattle.keys.specs.Numbers.{key_numbers, numbered}
use Rattle.keys.proofs.KeyLaws.{get_alike, own_agrees}
use Rattle.entries.specs.Entries.{record_of}
use Rattle.places.specs.Places.{says}
use Rattle.places.proofs.SaysLaws.{says_at}
use Rattle.places.proofs.SearchLaws.{Stops, get_rank, stands_in}
use Rattle.judge.specs.Ready.{Finds}

-- a look-up by numbers finds what the look-up by keys finds
pub get_both : (st : List Rec) (x : Rec) → T (all (fine scottish) st) → T (fine scottish x) → get numbered (key_numbers x) st ≡ get (keyed scottish) (key_of scottish x) st
get_both st x p g = get_alike st p (key_numbers x) (key_of scottish x) (own_agrees x g)

-- a place where a key would stand, and whether it does
pub record Stands (h f a k : List ℕ) (n i : ℕ) (b : Bool) : Type 0 where
  pub placed : i ≡ rank numbered k (says h f a n)
  pub within : i ≤ n
  pub there : b ≡ some? (get numbered k (says h f a n))

module _ (h f a k : List ℕ) (n i : ℕ) (r : Result ℕ ℕ) where
  -- and say where it stands
  pub stands_ok : Finds h f a k n r → r ≡ Ok i → Stands h f a k n i true
  stands_ok w e = let v : Finds h f a k n (Ok i) = rw e at w in record { placed = v.placed; within = v.within; there = v.there }

  -- or would
  pub stands_err : Finds h f a k n r → r ≡ Err i → Stands h f a k n i false
  stands_err w e = let v : Finds h f a k n (Err i) = rw e at w in record { placed = v.placed; within = v.within; there = v.there }

-- where a key stands, the entry at its place is of the record that stands there
pub found_at : (h f a k : List ℕ) (n i : ℕ) → n ≤ length a → i ≡ rank numbered k (says h f a n) → T (some? (get numbered k (says h f a n))) → get numbered k (says h f a n) ≡ some (record_of h f (get_or a i 0))
unfolding get gets
found_at h f a k n i l r t = whole ∙ go (lex k (key_numbers (record_of h f (get_or a i 0)))) stop (subst (λ o. T (some? o)) whole t)
  where
    here : drop (rank numbered k (says h f a n)) (says h f a n) ≡ record_of h f (get_or a i 0) ∷ drop (suc i) (says h f a n)
    here = ap (λ z. drop z (says h f a n)) (sym r) ∙ says_at h f a n l i (stands_in h f a n i k l r (some? (get numbered k (says h f a n))) refl (T_true _ t))

    whole : get numbered k (says h f a n) ≡ get numbered k (record_of h f (get_or a i 0) ∷ drop (suc i) (says h f a n))
    whole = (get_rank numbered k (says h f a n)).0 ∙ ap (get numbered k) here

    stop : T (not (is_gt (lex k (key_numbers (record_of h f (get_or a i 0))))))
    stop = subst (Stops numbered k) here (get_rank numbered k (says h f a n)).1

    go : (c : Tri) → T (not (is_gt c)) → T (some? (gets numbered c (record_of h f (get_or a i 0)) (get numbered k (drop (suc i) (says h f a n))))) → gets numbered c (record_of h f (get_or a i 0)) (get numbered k (drop (suc i) (says h f a n))) ≡ some (record_of h f (get_or a i 0))
    go lt w u = absurd u
    go eq w u = refl
    go gt w u = absurd w
