-- The laws of the check of a line: the walk of its fields beside the table's rows, its dates, and its faults in order.
use mathlib.Core.Path.{◌≡◌, refl, sym, ap, ◌∙◌}
use mathlib.Core.Bool.{Bool, true, false, ◌&&◌}
use mathlib.Core.Option.{Option, none, some}
use mathlib.Core.List.{List, [], ◌∷◌, map}
use Prim.Native.Nat.{ℕ, zero, suc, ◌+◌, ◌-◌, ◌≤◌, ◌<◌}
use Prim.Native.String.{String}
use native.Mathlib.Numerals.{add-one}
use native.Mathlib.Omega.{arith}
use borrow.Author.Rules.{rules}
use borrow.Author.Tests.{not-true, not-false, lt-ltb, le-ltb}
use lib.Dec.{T, ltb, leb, leb→le}
use lib.Text.{eqt}
use lib.ListN.{length, get_or, take, drop, length-map, drop_of_length-le}
use lib.Seq.{drop-cons}
use Rattle.base.specs.Lists.{pick, ask}
use Rattle.base.specs.Tests.{and_l, and_r, ok_ask}
use Rattle.meaning.specs.Forms.{sound_as}
use Rattle.meaning.specs.Lines.{fields_from, fields_of, has_fields}
use Rattle.meaning.specs.Kinds.{Kind, kinds}
use Rattle.meaning.specs.Format.{Field, named, field_number, start_date, end_date}
use Rattle.meaning.specs.Table.{fields, scottish}
use Rattle.meaning.specs.Codes.{field_count_wrong, end_before_start}
use Rattle.meaning.specs.Answers as meant
use Rattle.meaning.specs.Answers.{of_line, of_field, of_byte}
use Rattle.meaning.specs.Sound.{sound_field, place_in, forms, dates_agree, field_fault, form_fault, if_malformed}
use Rattle.theory.specs.Tri.{lt}
use Rattle.theory.specs.Lex.{lex}
use Rattle.std.specs.declared.cmp.Ordering.{Ordering}
use Rattle.std.specs.declared.cmp.Ordering.TheVariants.{Less, Equal, Greater}
use Rattle.std.specs.Ordering.{is_ge}
use Rattle.std.specs.Bool.{◌==◌}
use Rattle.text.specs.Order.{tri_of}
use Rattle.laws.specs.Kinds.{every}
use Rattle.laws.specs.FileRefusals.{none_named}
use Rattle.text.specs.Places.{field_count, field_len, field_end}
use Rattle.text.proofs.FieldLaws.{fields_at, fields_wrong, fields_right, fields_many}
use Rattle.layout.specs.Rows.{Row, bare, no_row, row_of, laid_out}
use Rattle.layout.specs.declared.records.Layout.{Layout}
use Rattle.layout.specs.Check.{bad_field, lowest_bad, first_of, kind_dates, Parted}

-- ---- the walk of the fields, k of them on

-- what is left of the rows begins with row k
at_row : (rs : List Row) (k : ℕ) → k < length rs → drop k rs ≡ get_or rs k no_row ∷ drop (k + 1) rs
at_row rs k h = rw (add-one, drop-cons rs k no_row)

-- the fields left at an offset, where one is not the last
pub fields_more : (t : List ℕ) (at e : ℕ) → e ≡ field_end t at → at ≤ e → (e ≡ length t → ⊥) → e ≤ length t
    → fields_from false (drop at t) ≡ take (e - at) (drop at t) ∷ fields_from false (drop (e + 1) t)
fields_more t at e p a n l =
    let size : field_len false (drop at t) ≡ e - at = omega arith in
    let next : at + suc (e - at) ≡ e + 1 = omega arith in
    fields_at t at ∙ rw (size, lt-ltb (e - at) (length t - at) (omega arith), next)

-- and where it is
pub fields_last : (t : List ℕ) (at e : ℕ) → e ≡ field_end t at → at ≤ e → e ≡ length t → fields_from false (drop at t) ≡ take (e - at) (drop at t) ∷ []
fields_last t at e p a q =
    let size : field_len false (drop at t) ≡ e - at = omega arith in
    fields_at t at ∙ rw (size, le-ltb (e - at) (length t - at) (omega arith))

-- the first field left, whatever follows it
fields_first : (t : List ℕ) (at e : ℕ) → e ≡ field_end t at → at ≤ e
    → fields_from false (drop at t) ≡ take (e - at) (drop at t) ∷ pick (ltb (e - at) (length t - at)) (fields_from false (drop (at + suc (e - at)) t)) []
fields_first t at e p a =
    let size : field_len false (drop at t) ≡ e - at = omega arith in
    fields_at t at ∙ rw size

-- the answer that is still to be found
abbrev pub bad_at : Kind → List ℕ → ℕ → ℕ → Option meant.Fault
bad_at kd t k at = lowest_bad (suc k) (drop k (map bare (fields kd))) (fields_from false (drop at t))

-- at the start no field is passed
pub bad_start : (kd : Kind) (t : List ℕ) → bad_at kd t 0 0 ≡ lowest_bad 1 (map bare (fields kd)) (fields_of t)
unfolding fields_of
bad_start kd t = refl

-- a kind has as many rows as fields
pub count_rows : (kd : Kind) (l : Layout) → l ≡ laid_out kd → l.count ≡ length (map bare (fields kd))
unfolding laid_out
count_rows kd l e = rw (e, length-map)

-- so field k has a row
pub row_there : (kd : Kind) (k n : ℕ) → k < n → n ≡ length (map bare (fields kd)) → k < length (fields kd)
row_there kd k n h c = rw length-map at (rw c at h)

-- the same by what the kind is
pub count_there : (kd : Kind) (l : Layout) (k : ℕ) → l ≡ laid_out kd → k < l.count → k < length (fields kd)
count_there kd l k e h = row_there kd k l.count h (count_rows kd l e)

module _ (kd : Kind) (t : List ℕ) (k n at : ℕ) (x : Option meant.Fault) (e : ℕ) (b : Bool) (w : bad_at kd t k at ≡ x) (h : k < n) (c : n ≡ length (map bare (fields kd))) (q : e ≡ field_end t at) (a : at ≤ e)
    (s : b ≡ sound_as scottish.text_rule (row_of kd k).0 (row_of kd k).1 (take (e - at) (drop at t))) where
  -- the row beside the field
  here : drop k (map bare (fields kd)) ≡ row_of kd k ∷ drop (k + 1) (map bare (fields kd))
  unfolding row_of
  here = at_row (map bare (fields kd)) k (rw c at h)

  -- a field that is malformed is the lowest
  pub bad_stop : b ≡ false → some (bad_field (k + 1) (row_of kd k) (take (e - at) (drop at t))) ≡ x
  unfolding lowest_bad ask
  bad_stop f = rw (add-one k) (rw (here, fields_first t at e q a, sym s ∙ f) at w)

  -- a sound one that a separator ends is passed
  pub bad_turn : b ≡ true → (e ≡ length t → ⊥) → e ≤ length t → bad_at kd t (k + 1) (e + 1) ≡ x
  unfolding lowest_bad ask
  bad_turn f m l = rw (ap suc (add-one k)) (rw (here, fields_more t at e q a m l, sym s ∙ f) at w)

  -- after the last field nothing is malformed
  pub bad_last : b ≡ true → e ≡ length t → none ≡ x
  bad_last f l = go (drop (k + 1) (map bare (fields kd))) (rw (here, fields_last t at e q a l) at w)
    where
      go : (ds : List Row) → lowest_bad (suc k) (row_of kd k ∷ ds) (take (e - at) (drop at t) ∷ []) ≡ x → none ≡ x
      go [] v = unfold lowest_bad ask in (rw (sym s ∙ f) at v)
      go (d ∷ ds) v = unfold lowest_bad ask in (rw (sym s ∙ f) at v)

-- nor after the last row
pub bad_done : (kd : Kind) (t : List ℕ) (k n at : ℕ) (x : Option meant.Fault) → bad_at kd t k at ≡ x → n ≤ k → n ≡ length (map bare (fields kd)) → none ≡ x
unfolding lowest_bad
bad_done kd t k n at x w h c = rw (drop_of_length-le (map bare (fields kd)) {i = k} (rw c at h)) at w

-- ---- what the meaning asks is what is answered

-- 5 at the lowest field that is malformed, else the rest
pub forms_is : (n : ℕ) (ds : List Field) (fs : List (List ℕ)) (rest : Option meant.Fault) → forms scottish n ds fs rest ≡ first_of (lowest_bad n (map bare ds) fs) rest
unfolding forms if_malformed lowest_bad sound_field place_in ask
forms_is n [] fs rest = refl
forms_is n (d ∷ ds) [] rest = refl
forms_is n (d ∷ ds) (f ∷ fs) rest = go (sound_as scottish.text_rule d.form d.filled f) (forms_is (suc n) ds fs rest)
  where
    go : (b : Bool) → forms scottish (suc n) ds fs rest ≡ first_of (lowest_bad (suc n) (map bare ds) fs) rest
        → ask b (bad_field n (bare d) f) (forms scottish (suc n) ds fs rest) ≡ first_of (ask b (bad_field n (bare d) f) (lowest_bad (suc n) (map bare ds) fs)) rest
    go true e = e
    go false e = refl

-- ---- dates

-- no END_DATE is in order
pub dates_no_end : (s e : List ℕ) → length e ≡ 0 → true ≡ dates_agree s e
unfolding dates_agree
dates_no_end s [] h = refl
dates_no_end s (x ∷ e) h = absurd (omega arith)

-- else the order of their bytes says it, and an empty START_DATE stands before every END_DATE
pub dates_told : (s e : List ℕ) (o : Ordering) (a b : Bool) → a ≡ (length e == 0) → a ≡ false → tri_of o ≡ lex e s → b ≡ is_ge o → b ≡ dates_agree s e
unfolding dates_agree lex
dates_told s [] o a b m n t h = let z : true ≡ false = sym m ∙ n in cc
dates_told s (x ∷ e) Less a b m n t h = go s t h
  where
    go : (s : List ℕ) → lt ≡ lex (x ∷ e) s → b ≡ false → b ≡ dates_agree s (x ∷ e)
    go [] t h = cc
    go (y ∷ s) t h = rw (← t) h
dates_told [] (x ∷ e) Equal a b m n t h = h
dates_told (y ∷ s) (x ∷ e) Equal a b m n t h = rw (← t) h
dates_told [] (x ∷ e) Greater a b m n t h = h
dates_told (y ∷ s) (x ∷ e) Greater a b m n t h = rw (← t) h

pub ruleset dates = (rules, dates_no_end, dates_told)

-- a place is one of those counted
pub place_from : (n : ℕ) (s : String) (ds : List Field) → (field_number n s ds ≡ 0 → ⊥) → n ≤ field_number n s ds
unfolding field_number
place_from n s [] h = absurd (h refl)
place_from n s (d ∷ ds) h = go (eqt s d.name) h (place_from (suc n) s ds)
  where
    go : (b : Bool) → (pick b n (field_number (suc n) s ds) ≡ 0 → ⊥) → ((field_number (suc n) s ds ≡ 0 → ⊥) → suc n ≤ field_number (suc n) s ds) → n ≤ pick b n (field_number (suc n) s ds)
    go true h ih = omega arith
    go false h ih = omega (arith, ih h)

-- and none is past the last
place_to : (n : ℕ) (s : String) (ds : List Field) → field_number (suc n) s ds ≤ n + length ds
unfolding field_number
place_to n s [] = omega arith
place_to n s (d ∷ ds) = go (eqt s d.name) (place_to (suc n) s ds)
  where
    go : (b : Bool) → field_number (suc (suc n)) s ds ≤ suc n + length ds → pick b (suc n) (field_number (suc (suc n)) s ds) ≤ n + suc (length ds)
    go true h = omega arith
    go false h = omega arith

-- every kind has fields, and no more than are noted
fields_few : (kd : Kind) → T (leb 1 (length (fields kd)) && leb (length (fields kd)) 32)
unfolding kinds fields
fields_few kd = every (λ k. leb 1 (length (fields k)) && leb (length (fields k)) 32) tt kd

pub fields_low : (kd : Kind) → 1 ≤ length (fields kd)
fields_low kd = leb→le 1 (length (fields kd)) (and_l (leb 1 (length (fields kd))) (leb (length (fields kd)) 32) (fields_few kd))

pub fields_high : (kd : Kind) → length (fields kd) ≤ 32
fields_high kd = leb→le (length (fields kd)) 32 (and_r (leb 1 (length (fields kd))) (leb (length (fields kd)) 32) (fields_few kd))

-- the field of a name is the one at its place
pub named_at : (n : ℕ) (s : String) (ds : List Field) (fs : List (List ℕ)) → (field_number (suc n) s ds ≡ 0 → ⊥) → named s ds fs ≡ get_or fs (field_number (suc n) s ds - suc n) []
unfolding named field_number
named_at n s [] fs h = absurd (h refl)
named_at n s (d ∷ ds) [] h = refl
named_at n s (d ∷ ds) (f ∷ fs) h = go (eqt s d.name) h (place_from (suc (suc n)) s ds) (named_at (suc n) s ds fs)
  where
    go : (b : Bool) → (pick b (suc n) (field_number (suc (suc n)) s ds) ≡ 0 → ⊥) → ((field_number (suc (suc n)) s ds ≡ 0 → ⊥) → suc (suc n) ≤ field_number (suc (suc n)) s ds)
        → ((field_number (suc (suc n)) s ds ≡ 0 → ⊥) → named s ds fs ≡ get_or fs (field_number (suc (suc n)) s ds - suc (suc n)) [])
        → pick b f (named s ds fs) ≡ get_or (f ∷ fs) (pick b (suc n) (field_number (suc (suc n)) s ds) - suc n) []
    go true h l ih = let z : suc n - suc n ≡ 0 = omega arith in rw z
    go false h l ih =
        let m = l h in
        let z : field_number (suc (suc n)) s ds - suc n ≡ suc (field_number (suc (suc n)) s ds - suc (suc n)) = omega arith in
        rw z (ih h)

module _ (kd : Kind) (t a : List ℕ) (l : Layout) (e : l ≡ laid_out kd) (p : Parted kd t a) where
  -- a place in the table is one of the line's fields
  pub start_there : (l.start ≡ 0 → ⊥) → l.start - 1 < length (fields_of t)
  unfolding laid_out
  start_there n = let v : l.start ≡ field_number 1 start_date (fields kd) = ap (λ x. x.start) e in omega (arith, v, place_to 0 start_date (fields kd), fields_many t (length (fields kd)) p.many)

  pub end_there : (l.end ≡ 0 → ⊥) → l.end - 1 < length (fields_of t)
  unfolding laid_out
  end_there n = let v : l.end ≡ field_number 1 end_date (fields kd) = ap (λ x. x.end) e in omega (arith, v, place_to 0 end_date (fields kd), fields_many t (length (fields kd)) p.many)

  -- and its end is noted
  pub noted_there : (k : ℕ) → k < length (fields_of t) → k < length a
  noted_there k h = omega (arith, fields_many t (length (fields kd)) p.many, fields_high kd, p.room)

-- every kind has three fields and more
fields_three : (kd : Kind) → 3 ≤ length (fields kd)
unfolding kinds fields
fields_three kd = leb→le 3 (length (fields kd)) (every (λ k. leb 3 (length (fields k))) tt kd)

-- so a line of a kind has a second and a third, and their ends are noted
module _ (kd : Kind) (t a : List ℕ) (u : Parted kd t a) (i : ℕ) (h : i ≤ 2) where
  pub early_there : i < length (fields_of t)
  early_there = omega (arith, fields_many t (length (fields kd)) u.many, fields_three kd)

  pub early_room : i < length a
  early_room = omega (arith, u.room)

-- where none is malformed each that is there is sound as its row has it
pub low_sound :
    (n : ℕ) (ds : List Row) (fs : List (List ℕ)) (i : ℕ) → none ≡ lowest_bad n ds fs → i < length ds → i < length fs
    → T (sound_as scottish.text_rule (get_or ds i no_row).0 (get_or ds i no_row).1 (get_or fs i []))
unfolding lowest_bad
low_sound n [] fs i z h g = absurd (omega arith)
low_sound n (d ∷ ds) [] i z h g = absurd (omega arith)
low_sound n (d ∷ ds) (f ∷ fs) zero z h g = (ok_ask (sound_as scottish.text_rule d.0 d.1 f) (bad_field n d f) (lowest_bad (suc n) ds fs) (sym z)).0
low_sound n (d ∷ ds) (f ∷ fs) (suc i) z h g =
    low_sound (suc n) ds fs i (sym (ok_ask (sound_as scottish.text_rule d.0 d.1 f) (bad_field n d f) (lowest_bad (suc n) ds fs) (sym z)).1) (omega arith) (omega arith)

module _ (kd : Kind) (t : List ℕ) (l : Layout) (e : l ≡ laid_out kd) where
  -- a kind with no START_DATE has nothing to be before
  pub kind_no_start : l.start ≡ 0 → true ≡ kind_dates kd (fields_of t)
  unfolding laid_out kind_dates dates_agree
  kind_no_start h = rw (none_named 0 start_date (fields kd) (fields_of t) (rw e at h)) (go (named end_date (fields kd) (fields_of t)))
    where
      go : (f : List ℕ) → true ≡ dates_agree [] f
      go [] = refl
      go (x ∷ f) = refl

  -- one with no END_DATE is in order
  pub kind_no_end : l.end ≡ 0 → true ≡ kind_dates kd (fields_of t)
  unfolding laid_out kind_dates
  kind_no_end h = rw (none_named 0 end_date (fields kd) (fields_of t) (rw e at h)) (dates_no_end _ [] refl)

  -- else the two fields say it
  pub kind_dates_lem : (b : Bool) (s f : List ℕ) → (l.start ≡ 0 → ⊥) → (l.end ≡ 0 → ⊥) → s ≡ get_or (fields_of t) (l.start - 1) [] → f ≡ get_or (fields_of t) (l.end - 1) [] → b ≡ dates_agree s f
      → b ≡ kind_dates kd (fields_of t)
  unfolding laid_out kind_dates
  kind_dates_lem b s f m n p q h =
      let u : l.start ≡ field_number 1 start_date (fields kd) = ap (λ x. x.start) e in
      let v : l.end ≡ field_number 1 end_date (fields kd) = ap (λ x. x.end) e in
      rw (named_at 0 start_date (fields kd) (fields_of t) (λ z. m (u ∙ z)), named_at 0 end_date (fields kd) (fields_of t) (λ z. n (v ∙ z)), ← u, ← v, ← p, ← q) h

pub ruleset kinddates = (rules, start_there, end_there, noted_there, kind_no_start, kind_no_end, kind_dates_lem)

-- ---- a line's faults in order

-- the meaning's questions, by what is answered
pub fault_is : (kd : Kind) (t : List ℕ) (rest : Option meant.Fault) → form_fault scottish kd t rest
    ≡ ask (has_fields (length (fields kd)) t) (of_line field_count_wrong)
    (first_of (lowest_bad 1 (map bare (fields kd)) (fields_of t)) (ask (kind_dates kd (fields_of t)) (of_field end_before_start (field_number 1 end_date (fields kd))) rest))
unfolding form_fault field_fault kind_dates
fault_is kd t rest = rw (forms_is 1 (fields kd) (fields_of t) (ask (dates_agree (named start_date (fields kd) (fields_of t)) (named end_date (fields kd) (fields_of t))) (of_field end_before_start (field_number 1 end_date (fields kd))) rest))

module _ (kd : Kind) (t : List ℕ) (l : Layout) (e : l ≡ laid_out kd) where
  -- as many fields as the kind has
  counted : l.count ≡ length (fields kd)
  unfolding laid_out
  counted = ap (λ x. x.count) e

  -- every kind has fields
  some_fields : 0 < l.count
  some_fields = omega (arith, counted, fields_low kd)

  -- as many as were counted
  pub right_count : (c : ℕ) → c ≡ field_count t → c ≡ l.count → true ≡ has_fields (length (fields kd)) t
  right_count c p f = rw (← counted) (fields_right t l.count c p f some_fields)

  -- 4 for their number
  pub fault_count : (c : ℕ) → c ≡ field_count t → (c ≡ l.count → ⊥) → (x : meant.Fault) → x ≡ of_line field_count_wrong → some x ≡ form_fault scottish kd t none
  unfolding ask
  fault_count c p f x m = ap some m ∙ rw (fault_is kd t none, ← counted, ← fields_wrong t l.count c p f)

  module _ (c : ℕ) (p : c ≡ field_count t) (f : c ≡ l.count) where
    -- the first fault, where their number is right
    first_is : (rest : Option meant.Fault) → form_fault scottish kd t rest
        ≡ first_of (lowest_bad 1 (map bare (fields kd)) (fields_of t)) (ask (kind_dates kd (fields_of t)) (of_field end_before_start (field_number 1 end_date (fields kd))) rest)
    unfolding ask
    first_is rest = fault_is kd t rest ∙ rw (← right_count c p f)

    -- 5 for the lowest that is malformed
    pub fault_form : (x : meant.Fault) → some x ≡ lowest_bad 1 (map bare (fields kd)) (fields_of t) → some x ≡ form_fault scottish kd t none
    fault_form x q = rw (first_is none, ← q)

    module _ (q : none ≡ lowest_bad 1 (map bare (fields kd)) (fields_of t)) (b : Bool) (r : b ≡ kind_dates kd (fields_of t)) where
      -- 6 for END_DATE before START_DATE
      pub fault_dates : b ≡ false → (x : meant.Fault) → x ≡ of_field end_before_start l.end → some x ≡ form_fault scottish kd t none
      unfolding ask laid_out
      fault_dates g x m = let v : l.end ≡ field_number 1 end_date (fields kd) = ap (λ x. x.end) e in ap some m ∙ rw (first_is none, ← q, sym r ∙ g, v)

      -- else none
      pub fault_none : b ≡ true → none ≡ form_fault scottish kd t none
      unfolding ask
      fault_none g = rw (first_is none, ← q, sym r ∙ g)

pub ruleset faults = (rules, not-true, not-false, fault_count, fault_form, fault_dates, fault_none)

-- ---- the fault of one field

-- a field of a kind is one of at most 32
pub field_few : (kd : Kind) (k : ℕ) → k < length (fields kd) → k < 32
field_few kd k h = omega (arith, fields_high kd)
