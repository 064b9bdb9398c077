-- The laws of lines that are written one after another.
use mathlib.Core.Path.{◌≡◌, refl, sym, ap, ◌∙◌}
use mathlib.Core.List.{List, [], ◌∷◌, ◌++◌, append_assoc}
use Prim.Native.Nat.{ℕ, zero, suc, ◌+◌, ◌-◌, ◌^◌, ◌≤◌, ◌<◌}
use native.Mathlib.Nat.{add-zero}
use native.Mathlib.Omega.{arith}
use borrow.Author.Rules.{rules}
use borrow.Rule.Slice.PartMut.{put_mid}
use mir.Syntax.{w64}
use mir.Val.{Fits}
use lib.ListN.{length, get_or, take, drop, length-append, length-drop, take-append-drop}
use lib.Seq.{length-take-le, take-add, take_all}
use Rattle.theory.specs.Step.{Op, ins, inv, Change}
use Rattle.theory.specs.Run.{as_inserts}
use Rattle.meaning.specs.Records.{Rec, change_text, change_texts, joined}
use Rattle.laws.proofs.Room.{inserts_length}
use Rattle.text.specs.Front.{in_front}
use Rattle.text.proofs.FrontLaws.{front_none, front_same, front_then}
use Rattle.entries.specs.Entries.{record_of}
use Rattle.places.specs.Places.{says}
use Rattle.places.specs.Changes.{op_at, steps_back}
use Rattle.places.proofs.SaysLaws.{length_says, says_at}
use Rattle.places.proofs.BackLaws.{length_back}
use Rattle.writer.specs.Lines.{line_bytes}
use Rattle.writer.specs.Room.{Put}

-- ---- changes, the first i of them written

-- the lines of changes, numbered from 1
abbrev pub texts : List (Change Rec) → List ℕ
texts cs = joined (change_texts 1 cs)

-- lines after lines
pub texts_append : (k : ℕ) (a b : List (Change Rec)) → joined (change_texts k (a ++ b)) ≡ joined (change_texts k a) ++ joined (change_texts (k + length a) b)
unfolding joined change_texts
texts_append k [] b = rw (add-zero k)
texts_append k (c ∷ a) b =
    let s : suc k + length a ≡ k + suc (length a) = omega arith in
    ap (λ x. change_text k c ++ (13 ∷ (10 ∷ x))) (texts_append (suc k) a b ∙ rw s)
    ∙ sym (append_assoc (change_text k c) (13 ∷ (10 ∷ joined (change_texts (suc k) a))) (joined (change_texts (k + suc (length a)) b)))

module _ (cs : List (Change Rec)) (i : ℕ) (c : Change Rec) (e : drop i cs ≡ c ∷ drop (suc i) cs) where
  inside : i < length cs
  inside = omega (arith, length-drop i cs, ap length e)

  -- one line more
  pub texts_more : texts (take (i + 1) cs) ≡ texts (take i cs) ++ line_bytes (i + 1) c
  unfolding joined change_texts line_bytes
  texts_more =
      let t : take (i + 1) cs ≡ take i cs ++ (c ∷ []) = take-add i 1 cs ∙ rw e in
      let n : 1 + length (take i cs) ≡ i + 1 = omega (arith, length-take-le i cs (omega (arith, inside))) in
      rw t (texts_append 1 (take i cs) (c ∷ []) ∙ rw n)

  -- is not more than all
  pub texts_most : length (texts (take i cs)) + length (line_bytes (i + 1) c) ≤ length (texts cs)
  texts_most =
      let w : length (texts cs) ≡ length (texts (take (i + 1) cs)) + length (joined (change_texts (1 + length (take (i + 1) cs)) (drop (i + 1) cs))) =
      ap (λ l. length (texts l)) (sym (take-append-drop (i + 1) cs))
      ∙ ap length (texts_append 1 (take (i + 1) cs) (drop (i + 1) cs))
      ∙ length-append (texts (take (i + 1) cs)) (joined (change_texts (1 + length (take (i + 1) cs)) (drop (i + 1) cs)))
      in
      omega (arith, w, ap length texts_more, length-append (texts (take i cs)) (line_bytes (i + 1) c))

-- the first i changes stand in the front of the output, and the rest of it is as it was
pub record Writing (cs : List (Change Rec)) (old out : List ℕ) (pos i : ℕ) : Type 0 where
  pub place : pos ≡ length (texts (take i cs))
  pub front : out ≡ in_front (texts (take i cs)) old
  pub same : length out ≡ length old
  pub within : pos ≤ length old

-- as much of the output is free as is left of it
pub writing_free : (cs : List (Change Rec)) (old out : List ℕ) (pos i : ℕ) → Writing cs old out pos i → length (take (length out - pos) (drop pos out)) ≡ length old - pos
writing_free cs old out pos i g = length-take-le (length out - pos) (drop pos out) (omega (arith, length-drop pos out)) ∙ omega (arith, g.same)

-- at first none does
pub writing_start : (cs : List (Change Rec)) (old : List ℕ) → Writing cs old old 0 0
unfolding joined change_texts
writing_start cs old = record { place = refl; front = front_none old; same = refl; within = omega arith }

module _ (cs : List (Change Rec)) (old out : List ℕ) (pos i : ℕ) (c : Change Rec) (g : Writing cs old out pos i) (e : drop i cs ≡ c ∷ drop (suc i) cs) where
  more : texts (take (i + 1) cs) ≡ texts (take i cs) ++ line_bytes (i + 1) c
  more = texts_more cs i c e

  -- with it the lines are not more than all
  pub writing_most : pos + length (line_bytes (i + 1) c) ≤ length (texts cs)
  writing_most = omega (arith, texts_most cs i c e, g.place)

  module _ (long : pos + length (line_bytes (i + 1) c) ≤ length old) (r : ℕ) (q : r ≡ length (line_bytes (i + 1) c)) where
    writing_in : pos + r ≤ length old
    writing_in = omega (arith, long)

    -- and stands after those before it
    pub writing_turn : (last : List ℕ) → last ≡ in_front (line_bytes (i + 1) c) (take (length out - pos) (drop pos out)) → Writing cs old (put_mid pos (length out - pos) out last) (pos + r) (i + 1)
    writing_turn last u =
        let d : put_mid pos (length out - pos) out last ≡ in_front (texts (take (i + 1) cs)) old = rw more (front_then (texts (take i cs)) (line_bytes (i + 1) c) old out last pos g.place g.front u) in
        let p : pos + r ≡ length (texts (take (i + 1) cs)) = omega (arith, ap length more, length-append (texts (take i cs)) (line_bytes (i + 1) c), g.place) in
        record {
          place = p;
          front = d;
          same = front_same (texts (take (i + 1) cs)) old (put_mid pos (length out - pos) out last) (omega (arith, long)) d;
          within = writing_in;
        }

-- the next line is written where it fits what is left of a room
module _ (cs : List (Change Rec)) (old out : List ℕ) (pos i : ℕ) (c : Change Rec) (g : Writing cs old out pos i) (e : drop i cs ≡ c ∷ drop (suc i) cs) (room : ℕ) (p : pos ≤ room) where
  -- where it doesn't, all of them don't fit the room
  pub line_long : room - pos < length (line_bytes (i + 1) c) → room < length (texts cs)
  line_long f = omega (arith, p, writing_most cs old out pos i c g e)

  module _ (n : ℕ) (last : List ℕ) (w : Put (line_bytes (i + 1) c) (room - pos) (take (length out - pos) (drop pos out)) n last) where
    -- where it does, it ends within the room
    pub line_in : pos + n ≤ room
    line_in = omega (arith, p, w.size, w.fits)

    -- as far as can be counted
    pub line_fits : room ≤ length old → length old < 2 ^ 64 → Fits w64 (pos + n)
    line_fits r b = record { fits = omega (arith, line_in) }

    -- and stands after those before it
    pub line_turn : room ≤ length old → Writing cs old (put_mid pos (length out - pos) out last) (pos + n) (i + 1)
    line_turn r = writing_turn cs old out pos i c g e (omega (arith, line_in, w.size)) n w.size last w.front

module _ (cs : List (Change Rec)) (old out : List ℕ) (pos i : ℕ) (g : Writing cs old out pos i) (h : length cs ≤ i) where
  -- at the end all are counted
  pub writing_count : pos ≡ length (texts cs)
  writing_count = rw (take_all i cs h) at g.place

  -- and written
  pub writing_done : out ≡ in_front (texts cs) old
  writing_done = rw (take_all i cs h) at g.front

  -- within the room
  pub all_put : (room : ℕ) → pos ≤ room → Put (texts cs) room old pos out
  all_put room p = record { fits = omega (arith, p, writing_count); size = writing_count; front = writing_done }

-- ---- a holding

drop_inserts : (i : ℕ) (st : List Rec) → drop i (as_inserts st) ≡ as_inserts (drop i st)
drop_inserts zero st = refl
drop_inserts (suc i) [] = refl
drop_inserts (suc i) (r ∷ st) = drop_inserts i st

module _ (h f a : List ℕ) (n i : ℕ) (l : n ≤ length a) where
  -- the next line is the record of entry i
  pub insert_next : i < n → drop i (as_inserts (says h f a n)) ≡ record { op = ins; rec = record_of h f (get_or a i 0) } ∷ drop (suc i) (as_inserts (says h f a n))
  insert_next g = drop_inserts i (says h f a n) ∙ rw (says_at h f a n l i g, drop_inserts (suc i) (says h f a n))

  -- where all have room, the next line has, so it is written
  pub insert_fits : (old out : List ℕ) (pos : ℕ) (g : Writing (as_inserts (says h f a n)) old out pos i) → i < n → length (texts (as_inserts (says h f a n))) ≤ length old
      → length (line_bytes (i + 1) (record { op = ins; rec = record_of h f (get_or a i 0) })) ≤ length out - pos
  insert_fits old out pos g b m = omega (arith, m, writing_most (as_inserts (says h f a n)) old out pos i _ g (insert_next b), g.same)

  -- there are as many as entries
  pub inserts_end : n ≤ i → length (as_inserts (says h f a n)) ≤ i
  inserts_end g = omega (arith, inserts_length (says h f a n), length_says h f a n l)

pub ruleset holding = (rules, writing_start, writing_count, writing_done, inserts_end)

-- ---- steps back

module _ (h f steps before : List ℕ) where
  drop_back : (i k : ℕ) → drop i (steps_back h f steps before (i + k)) ≡ steps_back h f steps before k
  unfolding steps_back
  drop_back zero k = let z : 0 + k ≡ k = omega arith in rw z
  drop_back (suc i) k = let z : suc i + k ≡ suc (i + k) = omega arith in rw z (drop_back i k)

  -- the next line takes back the last step that is left
  pub back_next : (n i k : ℕ) (o : Op) → i < n → k ≡ n - i - 1 → o ≡ inv (op_at f (get_or steps k 0))
      → drop i (steps_back h f steps before n) ≡ record { op = o; rec = record_of h f (get_or before k 0) } ∷ drop (suc i) (steps_back h f steps before n)
  unfolding steps_back
  back_next n i k o g q u =
      let x : n ≡ i + suc k = omega arith in
      let y : n ≡ suc i + k = omega arith in
      let d : drop i (steps_back h f steps before n) ≡ steps_back h f steps before (suc k) = rw x (drop_back i (suc k)) in
      let r : drop (suc i) (steps_back h f steps before n) ≡ steps_back h f steps before k = rw y (drop_back (suc i) k) in
      d ∙ rw (r, u)

  -- there are as many as steps
  pub back_end : (n i : ℕ) → n ≤ i → length (steps_back h f steps before n) ≤ i
  back_end n i g = omega (arith, length_back h f steps before n)

pub ruleset backwards = (rules, writing_start, back_end)
