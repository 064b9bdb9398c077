-- The laws of what stands in front of a slice, and of writers one after another.
use mathlib.Core.Path.{◌≡◌, refl, ap, ◌∙◌}
use mathlib.Core.List.{List, [], ◌∷◌, ◌++◌, append_assoc, append-nil}
use Prim.Native.Nat.{ℕ, suc, ◌+◌, ◌-◌, ◌≤◌, ◌<◌}
use native.Mathlib.Omega.{arith}
use borrow.Rule.Slice.PartMut.{put_mid}
use lib.ListN.{length, get_or, take, drop, set, length-append, length-drop}
use lib.Seq.{drop-cons, set_at, append_snoc, take_all, length-take-le, drop-drop, drop_at, take_at}
use Rattle.base.proofs.Walk.{at_end_lem}
use Rattle.text.specs.Front.{in_front}

-- ---- one writer

-- nothing is written yet
pub front_none : (old : List ℕ) → old ≡ in_front [] old
unfolding in_front
front_none old = refl

-- one element more behind what is written
pub front_more : (w old new : List ℕ) (i v : ℕ) → length w ≡ i → i < length old → new ≡ in_front w old → set new i v ≡ in_front (w ++ v ∷ []) old
unfolding in_front
front_more w old new i v q h e =
    let d : drop (length w) old ≡ get_or old i 0 ∷ drop (suc i) old = rw q (drop-cons old i 0 h) in
    let n : length (w ++ v ∷ []) ≡ suc i = omega (arith, length-append w (v ∷ [])) in
    rw (e, d, set_at w (get_or old i 0) (drop (suc i) old) v i q, n, append_snoc)

-- a writer keeps the length
pub front_same : (w old new : List ℕ) → length w ≤ length old → new ≡ in_front w old → length new ≡ length old
unfolding in_front
front_same w old new l e = ap length e ∙ length-append w (drop (length w) old) ∙ omega (arith, length-drop (length w) old)

-- ---- writers one after another

-- a tail that was lent from the end of a on came back with b in its front
pub front_then :
    (a b old new last : List ℕ) (n : ℕ) →
    n ≡ length a → new ≡ in_front a old → last ≡ in_front b (take (length new - n) (drop n new)) → put_mid n (length new - n) new last ≡ in_front (a ++ b) old
unfolding in_front
front_then a b old new last n p q w =
    let tail : drop n new ≡ drop (length a) old = rw (q, p) (drop_at a (drop (length a) old) (length a) refl) in
    let front : take n new ≡ a = rw (q, p) (take_at a (drop (length a) old) (length a) refl) in
    let whole : take (length new - n) (drop n new) ≡ drop n new = take_all (length new - n) (drop n new) (rw (length-drop n new) (omega arith)) in
    let after : drop (length new - n) (drop n new) ≡ [] = at_end_lem (drop n new) (length new - n) (rw (length-drop n new) (omega arith)) in
    rw (w, whole, front, after, tail, drop-drop (length b) (length a) old, append-nil, length-append a b, append_assoc)

-- the tail after w has the room that is left
pub front_room : (w old new : List ℕ) (n m : ℕ) → n ≡ length w → new ≡ in_front w old → n + m ≤ length old → m ≤ length (take (length new - n) (drop n new))
front_room w old new n m p e l =
    let s : length new ≡ length old = front_same w old new (omega arith) e in
    rw (length-take-le (length new - n) (drop n new) (omega (arith, length-drop n new))) (omega arith)

module _ (a b c old new last end : List ℕ) (n m : ℕ) (p : n ≡ length a) (q : new ≡ in_front a old) (r : m ≡ length b)
    (u : last ≡ in_front b (take (length new - n) (drop n new))) where
  -- three writers, each lent the tail that the one before it left
  pub front_last :
      end ≡ in_front c (take (length (put_mid n (length new - n) new last) - (n + m)) (drop (n + m) (put_mid n (length new - n) new last)))
      → put_mid (n + m) (length (put_mid n (length new - n) new last) - (n + m)) (put_mid n (length new - n) new last) end ≡ in_front (a ++ (b ++ c)) old
  front_last w =
      let l : n + m ≡ length (a ++ b) = omega (arith, length-append a b) in
      front_then (a ++ b) c old (put_mid n (length new - n) new last) end (n + m) l (front_then a b old new last n p q u) w ∙ rw append_assoc

  -- the third has the room that the first two leave
  pub last_room : (k : ℕ) → n + m + k ≤ length old → k ≤ length (take (length (put_mid n (length new - n) new last) - (n + m)) (drop (n + m) (put_mid n (length new - n) new last)))
  last_room k h =
      let l : n + m ≡ length (a ++ b) = omega (arith, length-append a b) in
      front_room (a ++ b) old (put_mid n (length new - n) new last) (n + m) k l (front_then a b old new last n p q u) h
