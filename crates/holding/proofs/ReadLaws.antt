-- The laws of the second pass, which is for references, and of both passes together.
use mathlib.Core.Path.{◌≡◌, refl, sym, ap, subst, ◌∙◌}
use mathlib.Core.Bool.{Bool, true, false}
use mathlib.Core.Option.{none}
use mathlib.Core.List.{List, [], ◌∷◌, ◌++◌}
use Prim.Native.Nat.{ℕ, suc, ◌+◌, ◌/◌, ◌%◌, ◌≤◌, ◌<◌}
use native.Mathlib.Numerals.{add-one}
use native.Mathlib.Omega.{arith}
use borrow.Author.Rules.{rules}
use Rattle.std.specs.Prelude.{Result, Ok, Err, MatchResult, IsErrAnd, IfErr}
use lib.Dec.{T, eqb}
use lib.ListN.{length, get_or, take, drop, drop_of_length-le, take-append-drop}
use lib.Seq.{length-take-le, take-add, take_all}
use Rattle.base.specs.Lists.{all, pick, zeros}
use Rattle.base.specs.Tests.{and_l}
use Rattle.base.specs.ListLaws.{append_all}
use Rattle.theory.specs.ReadBack.{Sound}
use Rattle.theory.specs.Refs.{meets}
use Rattle.meaning.specs.Lines.{lines_of}
use Rattle.meaning.specs.Table.{scottish}
use Rattle.meaning.specs.Records.{Rec, keyed, refs_of}
use Rattle.meaning.specs.Holding.{sound, unsound, scan, referring, on_scan, read_holding, most_records}
use Rattle.meaning.specs.Load.{held_numbers, check_holding}
use Rattle.meaning.specs.Steps.{held_tests}
use Rattle.laws.specs.Body.{fine}
use Rattle.laws.specs.HoldingReadBack.{Scanned, Reads, scanned, holding, held_records}
use Rattle.laws.specs.Scottish.{scottish_regular}
use Rattle.keys.specs.Numbers.{key_numbers, ref_at, ref_numbers}
use Rattle.keys.proofs.KeyLaws.{meets_agree}
use Rattle.entries.specs.Entries.{rec_of, line_at, record_of}
use Rattle.entries.specs.Tags.{tag_of, ref_tag, TagsOf}
use Rattle.places.specs.Places.{says}
use Rattle.places.specs.Counts.{times, refers, tally, by_key, moved, Open, Notes}
use Rattle.places.specs.Ordered.{Ordered}
use Rattle.places.proofs.SaysLaws.{length_says, says_at}
use Rattle.places.proofs.OrderedLaws.{ordered_asc, tagged_in, tagged_at}
use Rattle.places.proofs.CountLaws.{refs_few, tally_few, tally_more, by_cong, by_nothing, count_all, open_up, has_all}
use Rattle.noted.specs.Noted.{RefsNoted}
use Rattle.holding.specs.Read.{records_of, Listed, NotedAs, ScanIs, ReadAs, TallyIs, CountsAs, SoundIs, HeldIs}
use Rattle.answers.specs.Meant.{refusal_meant, three_said}
use Rattle.answers.specs.declared.refusal.Refusal.{Refusal}
use Rattle.meaning.specs.Codes.{holding_unsound}
use Rattle.meaning.specs.Answers.{of_line, at_line, no_fault, three_of}

-- ---- references, i records on

module _ (h a o : List ℕ) (n i : ℕ) (v : Ordered h h a o n) (g : i < n) where
  -- what is left begins with the record of entry i
  left_at : drop i (says h h a n) ≡ record_of h h (get_or a i 0) ∷ drop (i + 1) (says h h a n)
  left_at = rw (add-one i) (says_at h h a n v.within i g)

  -- which is sound, as all are
  pub fine_at : T (fine scottish (record_of h h (get_or a i 0)))
  fine_at =
      let d : T (all (fine scottish) (drop i (says h h a n))) = (append_all (fine scottish) (take i (says h h a n)) (drop i (says h h a n)) (rw (take-append-drop i (says h h a n)) v.fines)).1 in
      and_l (fine scottish (record_of h h (get_or a i 0))) _ (subst (λ s. T (all (fine scottish) s)) left_at d)

-- ---- references by tags

-- an entry's record is that of its line
own_record : (h : List ℕ) (v : ℕ) → record_of h h v ≡ rec_of (line_at h (v / 2))
unfolding record_of
own_record h v = go (eqb (v % 2) 0)
  where
    go : (b : Bool) → rec_of (line_at (pick b h h) (v / 2)) ≡ rec_of (line_at h (v / 2))
    go true = refl
    go false = refl

-- so the tags that are noted of the line are those of its references
pub tags_told : (h : List ℕ) (v o f s : ℕ) → o ≡ tag_of (key_numbers (record_of h h v))
    → f ≡ ref_tag (ref_at (rec_of (line_at h (v / 2))).kind (rec_of (line_at h (v / 2))).content 0) → s ≡ ref_tag (ref_at (rec_of (line_at h (v / 2))).kind (rec_of (line_at h (v / 2))).content 1)
    → TagsOf (record_of h h v) o f s
tags_told h v o f s p q r = record { own = p; first = rw (own_record h v) q; second = rw (own_record h v) r }

-- where something is noted, it is where they stand
pub noted_there : (h : List ℕ) (v n : ℕ) → (0 < n → RefsNoted h (v / 2) n (rec_of (line_at h (v / 2)))) → (n ≡ 0 → ⊥) → RefsNoted h (v / 2) n (rec_of (line_at h (v / 2)))
noted_there h v n f z = f (omega arith)

pub ruleset tells = (rules, tags_told, noted_there)

-- ---- all records

-- the records from i on are left, and the references of those before it are counted
pub record Counting (h a : List ℕ) (n : ℕ) (t : List ℕ) (i : ℕ) : Type 0 where
  pub left : referring scottish (says h h a n) (i + 1) (drop i (says h h a n)) ≡ referring scottish (says h h a n) 1 (says h h a n)
  pub told : take n t ≡ by_key (tally (take i (says h h a n))) (says h h a n)
  pub within : i ≤ n

-- at first nothing is counted
pub unmet_start : (h a : List ℕ) (n : ℕ) (t : List ℕ) → n ≤ length a → take n t ≡ zeros n → Counting h a n t 0
unmet_start h a n t l e = record { left = refl; told = e ∙ sym (by_nothing (says h h a n) ∙ ap zeros (length_says h h a n l)); within = omega arith }

module _ (h a o : List ℕ) (n : ℕ) (t : List ℕ) (i : ℕ) (w : Counting h a n t i) (v : Ordered h h a o n) where
  module _ (m : n ≤ most_records) (g : i < n) where
    -- one record's references more can be counted
    pub unmet_open : Open true (says h h a n) t (ref_numbers (record_of h h (get_or a i 0)))
    unmet_open =
        open_up (says h h a n) (ordered_asc h h a o n v) n (sym (length_says h h a n v.within)) (ref_numbers (record_of h h (get_or a i 0))) (tally (take i (says h h a n))) t w.told
        (λ k. omega (arith, tally_few (take i (says h h a n)) k, length-take-le i (says h h a n) (omega (arith, length_says h h a n v.within)), refs_few (record_of h h (get_or a i 0))))

    module _ (u : List ℕ) (b : Bool) (q : Notes true (says h h a n) (record_of h h (get_or a i 0)) t u b) where
      here : pick b (referring scottish (says h h a n) (suc (i + 1)) (drop (i + 1) (says h h a n))) (unsound (i + 1)) ≡ referring scottish (says h h a n) 1 (says h h a n)
      unfolding referring
      here =
          let e : b ≡ meets (keyed scottish) (refs_of scottish) (says h h a n) (record_of h h (get_or a i 0)) = q.met ∙ meets_agree (says h h a n) v.fines (record_of h h (get_or a i 0)) (fine_at h a o n i v g) in
          rw (left_at h a o n i v g, ← e) at w.left

      -- one that is not met is the lowest
      pub unmet_stop : b ≡ false → referring scottish (says h h a n) 1 (says h h a n) ≡ unsound (i + 1)
      unmet_stop f = sym (rw f at here)

      -- one that is met is counted, and leaves those after it
      pub unmet_turn : b ≡ true → Counting h a n u (i + 1)
      unmet_turn c = record { left = rw (add-one (i + 1)) (rw c at here); told = counted; within = omega arith }
        where
          st : List Rec
          st = says h h a n

          x : Rec
          x = record_of h h (get_or a i 0)

          more : take (i + 1) st ≡ take i st ++ (x ∷ [])
          more =
              let e : drop i st ≡ x ∷ drop (i + 1) st = left_at h a o n i v g in
              take-add i 1 st ∙ rw e

          counted : take n u ≡ by_key (tally (take (i + 1) st)) st
          counted =
              ap (take n) (q.noted c)
              ∙ count_all st (ordered_asc h h a o n v) n (sym (length_says h h a n v.within)) true (ref_numbers x) (has_all st x (subst T (sym (sym q.met ∙ c)) tt)) (tally (take i st)) t w.told
              ∙ by_cong (λ k. moved true (times k (ref_numbers x)) (tally (take i st) k)) (tally (take (i + 1) st)) (λ k. one k) st
            where
              one : (k : List ℕ) → moved true (times k (ref_numbers x)) (tally (take i st) k) ≡ tally (take (i + 1) st) k
              one k = unfold moved refers in sym (ap (λ s. tally s k) more ∙ tally_more (take i st) x k)

  -- at the end all are met
  pub unmet_done : n ≤ i → TallyIs (says h h a n) n t
  unfolding referring
  unmet_done g =
      let e : drop i (says h h a n) ≡ [] = drop_of_length-le (says h h a n) {i = i} (omega (arith, length_says h h a n v.within)) in
      let f : take i (says h h a n) ≡ says h h a n = take_all i (says h h a n) (omega (arith, length_says h h a n v.within)) in
      record { met = sym (rw e at w.left); told = w.told ∙ ap (λ s. by_key (tally s) (says h h a n)) f }

pub ruleset unmets = (rules, fine_at, tagged_in, tagged_at, unmet_start, unmet_open, unmet_stop, unmet_turn, unmet_done)

-- ---- both passes

-- an unsound holding, by the answer of either
pub held_faulty : (h a g t : List ℕ) (l : ℕ) → read_holding scottish h ≡ unsound l → (r : Result ℕ ℕ) → IsErrAnd r (λ e. e ≡ l) → HeldIs h r a g t
held_faulty h a g t l w (Ok n) q = absurd q
held_faulty h a g t l w (Err e) q = w ∙ ap unsound (sym q)

module _ (h a g v : List ℕ) (r : Result ℕ ℕ) (s : ReadAs h (scan scottish 1 none (lines_of h)) r a g v) where
  -- a fault of the first pass is the holding's
  pub read_faulty : (l : ℕ) → r ≡ Err l → read_holding scottish h ≡ unsound l
  unfolding read_holding on_scan
  read_faulty l e = let w : scan scottish 1 none (lines_of h) ≡ unsound l = subst (λ x. ReadAs h (scan scottish 1 none (lines_of h)) x a g v) e s in rw w

  module _ (n : ℕ) (e : r ≡ Ok n) where
    lines : ScanIs h (scan scottish 1 none (lines_of h)) n a g v
    lines = subst (λ x. ReadAs h (scan scottish 1 none (lines_of h)) x a g v) e s

    says_is : says h h a n ≡ records_of (scan scottish 1 none (lines_of h))
    says_is = lines.listed.says h

    reads : Reads scottish 1 none (lines_of h) (says h h a n)
    reads = subst (Reads scottish 1 none (lines_of h)) (sym says_is) (subst (Scanned scottish 1 none (lines_of h)) lines.sound (scanned scottish scottish_regular 1 none (lines_of h) (omega arith)))

    -- the records are few
    pub read_few : n ≤ most_records
    read_few = lines.listed.few

    -- they are sound and in order, and their keys are tagged
    pub read_ordered : most_records ≤ length a → Ordered h h a g n
    read_ordered l = record { within = omega (arith, read_few); asc = reads.asc; fines = reads.fines; tagged = lines.tagged ∙ ap (by_key tag_of) (sym says_is) }

    -- and what they refer to is noted
    pub read_noted : NotedAs h a v n
    read_noted = lines.noted

    -- with room for each
    pub read_room : most_records ≤ length v → n ≤ length v
    read_room l = omega (arith, read_few)

    -- the second pass says the rest
    same : read_holding scottish h ≡ referring scottish (says h h a n) 1 (says h h a n)
    unfolding read_holding on_scan
    same = ap (on_scan scottish) lines.sound ∙ ap (λ l. referring scottish l 1 l) (sym says_is)

    module _ (T : Type 0) (t : List ℕ) (x : Result T ℕ) (c : CountsAs h a n t x) where
      -- a reference that is not met
      pub read_unmet : (l : ℕ) → x ≡ Err l → read_holding scottish h ≡ unsound l
      read_unmet l d = same ∙ subst (λ y. CountsAs h a n t y) d c

      -- a sound holding
      pub read_told : (u : T) → x ≡ Ok u → SoundIs h n a g t
      unfolding records_of
      read_told u d =
          let k : TallyIs (says h h a n) n t = subst (λ y. CountsAs h a n t y) d c in
          let w : read_holding scottish h ≡ sound (says h h a n) = same ∙ k.met in
          record { sound = is_sound w; listed = is_listed w; tagged = is_tagged w; told = is_told w k.told }
        where
          is_sound : read_holding scottish h ≡ sound (says h h a n) → read_holding scottish h ≡ sound (records_of (read_holding scottish h))
          is_sound w = rw w

          is_listed : read_holding scottish h ≡ sound (says h h a n) → Listed h a n (records_of (read_holding scottish h))
          is_listed w = rw (w, says_is) lines.listed

          is_tagged : read_holding scottish h ≡ sound (says h h a n) → take n g ≡ by_key tag_of (records_of (read_holding scottish h))
          is_tagged w = rw (w, says_is) lines.tagged

          is_told : read_holding scottish h ≡ sound (says h h a n) → take n t ≡ by_key (tally (says h h a n)) (says h h a n) → take n t ≡ by_key (tally (records_of (read_holding scottish h))) (records_of (read_holding scottish h))
          is_told w q = rw w q

pub ruleset readings = (rules, read_faulty, read_few, read_ordered, read_noted, read_room, read_unmet, read_told)

-- ---- a sound holding that was read

module _ (h a g t : List ℕ) (n : ℕ) (s : SoundIs h n a g t) where
  -- its records are as steps leave them
  pub held_state : Sound (keyed scottish) (fine scottish) (held_tests scottish) (records_of (read_holding scottish h))
  unfolding held_records
  held_state = ((holding scottish scottish_regular).holds h (records_of (read_holding scottish h)) (ap held_records s.sound)).1

  -- so its entries are in order, beside any file
  pub held_ordered : (f : List ℕ) → most_records ≤ length a → Ordered h f a g n
  held_ordered f l =
      let e : says h f a n ≡ records_of (read_holding scottish h) = s.listed.says f in
      record { within = omega (arith, s.listed.few); asc = rw e held_state.asc; fines = rw e held_state.fines; tagged = rw e s.tagged }

-- ---- the three numbers

-- the refusal of an unsound holding, by its lowest faulty line
abbrev pub Refused : Result ℕ ℕ → Result ℕ Refusal → Type 0
Refused r q = MatchResult r (λ x. q ≡ Ok x) (λ e. IsErrAnd q (λ d. refusal_meant d ≡ at_line e (of_line holding_unsound)))

module _ (h a g t : List ℕ) (q : Result ℕ Refusal) where
  -- a sound holding
  pub check_sound : (r : Result ℕ ℕ) → HeldIs h r a g t → Refused r q → (n : ℕ) → q ≡ Ok n → no_fault ≡ check_holding scottish h
  unfolding check_holding held_numbers
  check_sound (Ok x) s m n e = sym (ap held_numbers s.sound)
  check_sound (Err l) s m n e = absurd (subst (λ x. IsErrAnd x (λ d. refusal_meant d ≡ at_line l (of_line holding_unsound))) e m)

  -- an unsound one, whose refusal names no byte
  pub check_unsound : (r : Result ℕ ℕ) → HeldIs h r a g t → Refused r q → (d : Refusal) → q ≡ Err d → {T : Type 0} → (p : Result T Refusal) → IsErrAnd p (λ y. y ≡ d) → (three_said p ≡ check_holding scottish h) × IfErr p (λ y. y.place ≡ 0)
  unfolding check_holding held_numbers
  check_unsound (Ok x) s m d e p w = absurd (let z : ◌≡◌ {A = Result ℕ Refusal} (Err d) (Ok x) = sym e ∙ m in cc)
  check_unsound (Err l) s m d e (Ok u) w = absurd w
  check_unsound (Err l) s m d e (Err y) w =
      let v : refusal_meant d ≡ at_line l (of_line holding_unsound) = subst (λ x. IsErrAnd x (λ d. refusal_meant d ≡ at_line l (of_line holding_unsound))) e m in
      (ap (λ x. three_of (refusal_meant x)) w ∙ ap three_of v ∙ sym (ap held_numbers s), ap (λ x. x.place) w ∙ ap (λ x. x.place) v)
