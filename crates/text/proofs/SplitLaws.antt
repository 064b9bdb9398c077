-- The laws of the walk that notes where the fields of a line end, and of a field by what is noted.
use mathlib.Core.Path.{◌≡◌, refl, ap, ◌∙◌, sym}
use mathlib.Core.Bool.{Bool, true, false, not}
use mathlib.Core.List.{List, [], ◌∷◌}
use Prim.Native.Nat.{ℕ, zero, suc, ◌+◌, ◌-◌, ◌≤◌, ◌<◌}
use native.Mathlib.Nat.{add-zero}
use native.Mathlib.Omega.{arith}
use native.Mathlib.Decide.{dec_lt}
use borrow.Author.Tests.{lt-ltb}
use borrow.Author.Rules.{rules}
use lib.Dec.{ltb, ltb→lt, leb-suc-suc}
use lib.ListN.{length, get_or, drop, take, set, length-set, length-drop}
use lib.Seq.{drop-drop, get_or-set_same, get_or-set_other}
use Rattle.base.specs.Lists.{pick}
use Rattle.base.proofs.Walk.{at_cons, at_end_lem}
use Rattle.meaning.specs.Lines.{is_sep, turned, add_byte, fields_from, fields_of}
use Rattle.text.specs.Places.{field_count, field_len, field_end, ends_from, field_ends, Notes}
use Rattle.text.proofs.FieldLaws.{sep_here, sep_inside, sep_other, sep_outside, sep_stays, turn_quote, turn_other, fields_some, fields_at, count_at, count_start, count_sep, count_other, count_open, count_shut}

-- ---- as many ends as fields

add_length : (x : ℕ) (fs : List (List ℕ)) → 0 < length fs → length (add_byte false x fs) ≡ length fs
unfolding add_byte
add_length x [] h = absurd (omega arith)
add_length x (f ∷ fs) h = refl

pub ends_length : (q : Bool) (i : ℕ) (l : List ℕ) → length (ends_from q i l) ≡ length (fields_from q l)
unfolding ends_from fields_from add_byte
ends_length q i [] = refl
ends_length q i (x ∷ r) = go (is_sep q x) (ends_length (turned q x) (suc i) r)
  where
    go : (b : Bool) → length (ends_from (turned q x) (suc i) r) ≡ length (fields_from (turned q x) r)
        → length (pick b (i ∷ ends_from (turned q x) (suc i) r) (ends_from (turned q x) (suc i) r)) ≡ length (add_byte b x (fields_from (turned q x) r))
    go true e = ap suc e
    go false e = e ∙ sym (add_length x (fields_from (turned q x) r) (fields_some (turned q x) r))

-- ---- the walk, where quoting is q, m fields have ended and their ends are in a

pub record Splitting (t a : List ℕ) (q : Bool) (m i : ℕ) : Type 0 where
  pub counted : count_at t q m i ≡ field_count t
  pub left : drop m (field_ends t) ≡ ends_from q i (drop i t)
  pub noted : (j : ℕ) → j < m → j < length a → get_or a j 0 ≡ get_or (field_ends t) j 0

-- at the start no field has ended
pub split_start : (t a : List ℕ) → Splitting t a false 0 0
unfolding field_ends
split_start t a = record { counted = count_start t; left = refl; noted = λ j h g. absurd (omega arith) }

-- another byte than a separator is passed
pub split_other : (t a : List ℕ) (q : Bool) (m i : ℕ) (b q' : Bool) → Splitting t a q m i → i < length t → b ≡ is_sep q (get_or t i 0) → b ≡ false → q' ≡ turned q (get_or t i 0)
    → Splitting t a q' m (i + 1)
unfolding ends_from
split_other t a q m i b q' s h p f k =
    let z : is_sep q (get_or t i 0) ≡ false = sym p ∙ f in
    let n : suc i ≡ i + 1 = omega arith in
    record { counted = count_other t q m i _ b q' s.counted h p f k; left = s.left ∙ rw (at_cons t i h, z, k, n); noted = s.noted }

-- what is noted next
noted_next : (t a : List ℕ) (m i : ℕ) (es : List ℕ) → drop m (field_ends t) ≡ i ∷ es → ((j : ℕ) → j < m → j < length a → get_or a j 0 ≡ get_or (field_ends t) j 0)
    → (j : ℕ) → j < m + 1 → j < length (set a m i) → get_or (set a m i) j 0 ≡ get_or (field_ends t) j 0
noted_next t a m i es e f j h g = go (dec_lt j m)
  where
    len : length (set a m i) ≡ length a
    len = length-set a m i

    first : (l : List ℕ) (n : ℕ) → drop n l ≡ i ∷ es → get_or l n 0 ≡ i
    first [] zero e = let z : ◌≡◌ {A = List ℕ} [] (i ∷ es) = e in cc
    first [] (suc n) e = let z : ◌≡◌ {A = List ℕ} [] (i ∷ es) = e in cc
    first (x ∷ l) zero e = ap (λ k. get_or k 0 0) e
    first (x ∷ l) (suc n) e = first l n e

    go : Dec (j < m) → get_or (set a m i) j 0 ≡ get_or (field_ends t) j 0
    go (yes d) = get_or-set_other a m j i 0 (λ z. omega arith) ∙ f j d (omega (arith, len, g))
    go (no d) = let z : j ≡ m = omega arith in rw z (get_or-set_same a m i 0 (omega (arith, len, g)) ∙ sym (first (field_ends t) m e))

-- a separator ends a field
pub split_sep : (t a c : List ℕ) (q : Bool) (m i : ℕ) (b : Bool) → Splitting t a q m i → i < length t → b ≡ is_sep q (get_or t i 0) → b ≡ true → c ≡ set a m i → Splitting t c q (m + 1) (i + 1)
unfolding ends_from
split_sep t a c q m i b s h p f e =
    let z : is_sep q (get_or t i 0) ≡ true = sym p ∙ f in
    let here : drop m (field_ends t) ≡ i ∷ ends_from (turned q (get_or t i 0)) (suc i) (drop (i + 1) t) = s.left ∙ rw (at_cons t i h, z) in
    let n : suc i ≡ i + 1 = omega arith in
    record {
      counted = count_sep t q m i _ b s.counted h p f;
      left = sym (drop-drop 1 m (field_ends t)) ∙ ap (drop 1) here ∙ rw (sep_stays q (get_or t i 0) z, n);
      noted = rw e (noted_next t a m i _ here s.noted);
    }

-- ---- the same by the byte

module _ (t a : List ℕ) (q : Bool) (m i : ℕ) (s : Splitting t a q m i) (h : i < length t) where
  -- a comma outside quotes separates
  pub split_comma : (c : List ℕ) → get_or t i 0 ≡ 44 → q ≡ false → c ≡ set a m i → Splitting t c q (m + 1) (i + 1)
  split_comma c b o e = split_sep t a c q m i true s h (sym (sep_here q (get_or t i 0) b o)) refl e

  -- one within quotes doesn't
  pub split_inside : get_or t i 0 ≡ 44 → q ≡ true → Splitting t a q m (i + 1)
  split_inside b o = split_other t a q m i false q s h (sym (sep_inside q (get_or t i 0) o)) refl (turn_other q (get_or t i 0) (λ z. omega arith))

  -- a quote turns quoting
  pub split_quote : (q' : Bool) → get_or t i 0 ≡ 34 → q' ≡ not q → Splitting t a q' m (i + 1)
  split_quote q' b k = split_other t a q m i false q' s h (sep_other q (get_or t i 0) (λ z. omega arith)) refl (k ∙ turn_quote q (get_or t i 0) b)

  -- another byte is passed
  pub split_byte : (get_or t i 0 ≡ 44 → ⊥) → (get_or t i 0 ≡ 34 → ⊥) → Splitting t a q m (i + 1)
  split_byte b o = split_other t a q m i false q s h (sep_other q (get_or t i 0) b) refl (turn_other q (get_or t i 0) o)

-- the line's end ends the last
pub split_notes : (t a c : List ℕ) (q : Bool) (m i : ℕ) → Splitting t a q m i → length t ≤ i → i ≤ length t → c ≡ set a m (length t) → Notes t c
unfolding ends_from fields_of field_ends
split_notes t a c q m i s h k f =
    let e : c ≡ set a m i = f ∙ ap (λ n. set a m n) (omega arith) in
    let last : drop m (ends_from false 0 t) ≡ i ∷ [] = s.left ∙ rw (at_end_lem t i h) in
    let size : length (ends_from false 0 t) - m ≡ 1 = sym (length-drop m (ends_from false 0 t)) ∙ ap length last in
    let all : (j : ℕ) → j < m + 1 → j < length c → get_or c j 0 ≡ get_or (ends_from false 0 t) j 0 = rw e (noted_next t a m i [] last s.noted) in
    record { ends = λ k g l. all k (omega (arith, ends_length false 0 t)) l }

-- an open quote counts nothing
pub split_open : (t a : List ℕ) (q : Bool) (m i : ℕ) → Splitting t a q m i → length t ≤ i → q ≡ true → 0 ≡ field_count t
split_open t a q m i s h e = count_open t q m i _ s.counted h e

-- else the last field is one more
pub split_shut : (t a : List ℕ) (q : Bool) (m i : ℕ) → Splitting t a q m i → length t ≤ i → q ≡ false → m + 1 ≡ field_count t
split_shut t a q m i s h e = count_shut t q m i _ s.counted h e

pub ruleset splits = (rules, split_start, split_comma, split_inside, split_quote, split_byte, split_notes, split_open, split_shut)

-- ---- a field by what is noted

-- a field is no longer than what is left
pub len_le : (q : Bool) (l : List ℕ) → field_len q l ≤ length l
unfolding field_len
len_le q [] = omega arith
len_le q (x ∷ r) = go (is_sep q x) (len_le (turned q x) r)
  where
    go : (b : Bool) → field_len (turned q x) r ≤ length r → pick b 0 (suc (field_len (turned q x) r)) ≤ suc (length r)
    go true h = omega arith
    go false h = omega arith

-- the first end, and what the others are the ends of
ends_next : (q : Bool) (i : ℕ) (l : List ℕ)
    → ends_from q i l ≡ (i + field_len q l) ∷ pick (ltb (field_len q l) (length l)) (ends_from false (i + suc (field_len q l)) (drop (suc (field_len q l)) l)) []
unfolding ends_from field_len
ends_next q i [] = rw (add-zero i)
ends_next q i (x ∷ r) = go (is_sep q x) refl (ends_next (turned q x) (suc i) r)
  where
    n : ℕ
    n = field_len (turned q x) r

    go : (b : Bool) → is_sep q x ≡ b → ends_from (turned q x) (suc i) r ≡ (suc i + n) ∷ pick (ltb n (length r)) (ends_from false (suc i + suc n) (drop (suc n) r)) []
        → pick b (i ∷ ends_from (turned q x) (suc i) r) (ends_from (turned q x) (suc i) r)
        ≡ (i + pick b 0 (suc n)) ∷ pick (ltb (pick b 0 (suc n)) (suc (length r))) (ends_from false (i + suc (pick b 0 (suc n))) (drop (suc (pick b 0 (suc n))) (x ∷ r))) []
    go true s e =
        let a : i + 1 ≡ suc i = omega arith in
        rw (sep_stays q x s, sep_outside q x s, lt-ltb 0 (suc (length r)) (omega arith), add-zero i, a)
    go false s e =
        let a : suc i + n ≡ i + suc n = omega arith in
        let b : suc i + suc n ≡ i + suc (suc n) = omega arith in
        e ∙ rw (a, b, leb-suc-suc (suc n) (length r))

-- the same at an offset
pub ends_at : (t : List ℕ) (at : ℕ)
    → ends_from false at (drop at t) ≡ field_end t at ∷ pick (ltb (field_len false (drop at t)) (length t - at)) (ends_from false (at + suc (field_len false (drop at t))) (drop (at + suc (field_len false (drop at t))) t)) []
ends_at t at = ends_next false at (drop at t) ∙ rw (length-drop at t, drop-drop (suc (field_len false (drop at t))) at t)

-- where field k starts, where those before it end as es says
abbrev pub start_by : ℕ → List ℕ → ℕ → ℕ
start_by at es zero = at
start_by at es (suc k) = get_or es k 0 + 1

-- field k stands from s up to e
pub record Stands (t f : List ℕ) (s e : ℕ) : Type 0 where
  pub forward : s ≤ e
  pub within : e ≤ length t
  pub bytes : take (e - s) (drop s t) ≡ f

-- each field of what is left stands between two ends
stands_from : (t : List ℕ) (k at : ℕ) → at ≤ length t → k < length (fields_from false (drop at t))
    → Stands t (get_or (fields_from false (drop at t)) k []) (start_by at (ends_from false at (drop at t)) k) (get_or (ends_from false at (drop at t)) k 0)
stands_from t zero at h l =
    let size : field_end t at - at ≡ field_len false (drop at t) = omega arith in
    rw (fields_at t at, ends_at t at) (record { forward = omega arith; within = omega (arith, len_le false (drop at t), length-drop at t); bytes = rw size })
stands_from t (suc k) at h l = go (ltb n (length t - at)) refl (fields_at t at) (ends_at t at) (stands_from t k (at + suc (field_len false (drop at t))))
  where
    n : ℕ
    n = field_len false (drop at t)

    next : ℕ
    next = at + suc n

    more : ltb n (length t - at) ≡ true → next ≤ length t
    more e = omega (arith, ltb→lt n (length t - at) (rw e tt))

    starts : (j : ℕ) (es : List ℕ) → start_by at (field_end t at ∷ es) (suc j) ≡ start_by next es j
    starts zero es = omega arith
    starts (suc j) es = refl

    go : (b : Bool) → ltb n (length t - at) ≡ b
        → fields_from false (drop at t) ≡ take n (drop at t) ∷ pick b (fields_from false (drop next t)) []
        → ends_from false at (drop at t) ≡ field_end t at ∷ pick b (ends_from false next (drop next t)) []
        → (next ≤ length t → k < length (fields_from false (drop next t)) → Stands t (get_or (fields_from false (drop next t)) k []) (start_by next (ends_from false next (drop next t)) k) (get_or (ends_from false next (drop next t)) k 0))
        → Stands t (get_or (fields_from false (drop at t)) (suc k) []) (start_by at (ends_from false at (drop at t)) (suc k)) (get_or (ends_from false at (drop at t)) (suc k) 0)
    go false w e f ih = absurd (omega (arith, ap length e))
    go true w e f ih =
        let deep : k < length (fields_from false (drop next t)) = omega (arith, ap length e) in
        rw (e, f, starts k (ends_from false next (drop next t))) (ih (more w) deep)

-- each field of a line stands between what is noted
module _ (t a : List ℕ) (n : Notes t a) where
  noted_first : (l : 0 < length (fields_of t)) → 0 < length a → Stands t (get_or (fields_of t) 0 []) 0 (get_or a 0 0)
  unfolding fields_of field_ends
  noted_first l g = rw (n.ends 0 l g) (stands_from t 0 0 (omega arith) l)

  -- the first from the line's start
  pub noted_front : (l : 0 < length (fields_of t)) → 0 < length a → (get_or a 0 0 ≤ length t) × (take (get_or a 0 0) t ≡ get_or (fields_of t) 0 [])
  noted_front l g = let s = noted_first l g in let z : get_or a 0 0 - 0 ≡ get_or a 0 0 = omega arith in (s.within, rw z at s.bytes)

  pub noted_later : (k : ℕ) → (k ≡ 0 → ⊥) → (l : k < length (fields_of t)) → k < length a → Stands t (get_or (fields_of t) k []) (get_or a (k - 1) 0 + 1) (get_or a k 0)
  unfolding fields_of field_ends
  noted_later zero z l g = absurd (z refl)
  noted_later (suc k) z l g =
      let m : suc k - 1 ≡ k = omega arith in
      rw (m, n.ends (suc k) l g, n.ends k (omega arith) (omega arith)) (stands_from t (suc k) 0 (omega arith) l)
