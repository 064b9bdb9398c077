-- The laws of the number of a field, by its place: the walk of a text's digits round its letter, and the form that the table has there.
use mathlib.Core.Path.{◌≡◌, refl, sym, ap, ◌∙◌}
use mathlib.Core.Bool.{Bool, true, false}
use mathlib.Core.List.{List, [], ◌∷◌, ◌++◌, map}
use Prim.Native.Nat.{ℕ, zero, suc, ◌+◌, ◌-◌, ◌*◌, ◌^◌, ◌≤◌, ◌<◌, min}
use native.Mathlib.Decide.{dec_lt}
use native.Mathlib.Nat.{pow-suc, add-mul, mul_assoc, mul_comm}
use native.Mathlib.Numerals.{add-one}
use native.Mathlib.Omega.{arith}
use borrow.Author.Rules.{rules}
use borrow.Author.Tests.{lt-ltb, le-ltb}
use lib.Dec.{ltb}
use lib.ListN.{length, get_or, take, drop, length-map, length-take, length-drop}
use lib.Seq.{take-nil, get_or-take, get_or-drop}
use mir.Syntax.{w8, w64}
use mir.Val.{Fits}
use Rattle.base.specs.Lists.{pick, part}
use Rattle.base.proofs.Walk.{at_cons, at_end_lem}
use Rattle.text.proofs.NumberLaws.{worth_turn, worth_fits, ten_fits}
use Rattle.theory.specs.Decimal.{value, value_f}
use Rattle.meaning.specs.Lines.{fields_of}
use Rattle.meaning.specs.Forms.{Form, number, is_textual, is_empty}
use Rattle.meaning.specs.Kinds.{Kind}
use Rattle.meaning.specs.Table.{fields}
use Rattle.layout.specs.declared.records.Layout.{Layout}
use Rattle.layout.specs.Rows.{Row, bare, no_row, row_of, decoded, form_decoded, laid_out}
use Rattle.layout.proofs.CheckLaws.{count_there}
use Rattle.keys.specs.Numbers.{digits_in, number_of}
use Rattle.keys.specs.Places.{field_at, number_at, empty_at}

-- ---- the walk of a text's digits, at byte i

-- the digits left at byte i
abbrev pub digits_left : List ℕ → ℕ → List ℕ
digits_left f i = part f i 5 ++ part f (pick (ltb i 6) 6 i) 15

-- a part begins with its first byte
part_cons : (f : List ℕ) (i e : ℕ) → i < e → i < length f → part f i e ≡ get_or f i 0 ∷ part f (i + 1) e
unfolding part
part_cons f i e h k = let z : e - i ≡ suc (e - (i + 1)) = omega arith in rw (z, at_cons f i k)

-- one that ends before it begins has none
part_none : (f : List ℕ) (i e : ℕ) → e ≤ i → part f i e ≡ []
unfolding part
part_none f i e h = let z : e - i ≡ 0 = omega arith in rw z

-- nor has one past the end
part_over : (f : List ℕ) (i e : ℕ) → length f ≤ i → part f i e ≡ []
unfolding part
part_over f i e h = rw (at_end_lem f i h) (take-nil (e - i))

left_over : (f : List ℕ) (i : ℕ) → length f ≤ i → digits_left f i ≡ []
left_over f i h = go (dec_lt i 6)
  where
    go : Dec (i < 6) → digits_left f i ≡ []
    go (yes p) = rw (lt-ltb i 6 p, part_over f i 5 h, part_over f 6 15 (omega arith))
    go (no p) = rw (le-ltb i 6 (omega arith), part_over f i 5 h, part_over f i 15 h)

left_turn : (f : List ℕ) (i : ℕ) → i < 15 → i < length f → (i ≡ 5 → ⊥) → digits_left f i ≡ get_or f i 0 ∷ digits_left f (i + 1)
left_turn f i h k n = go (dec_lt i 5)
  where
    go : Dec (i < 5) → digits_left f i ≡ get_or f i 0 ∷ digits_left f (i + 1)
    go (yes p) = rw (lt-ltb i 6 (omega arith), lt-ltb (i + 1) 6 (omega arith), part_cons f i 5 p k)
    go (no p) = rw (le-ltb i 6 (omega arith), le-ltb (i + 1) 6 (omega arith), part_none f i 5 (omega arith), part_none f (i + 1) 5 (omega arith), part_cons f i 15 h k)

-- at the start all digits are left
pub text_start : (f : List ℕ) → value_f 0 (digits_left f 1) ≡ value (digits_in f)
unfolding value digits_in
text_start f = refl

module _ (f : List ℕ) (v i x : ℕ) (e : value_f v (digits_left f i) ≡ x) where
  -- the letter is passed
  pub text_letter : i ≡ 5 → value_f v (digits_left f (i + 1)) ≡ x
  text_letter q = let w : value_f v (digits_left f 5) ≡ x = rw q at e in rw q (ap (value_f v) (letter f) ∙ w)
    where
      letter : (f : List ℕ) → digits_left f (5 + 1) ≡ digits_left f 5
      letter f = rw (part_none f 5 5 (omega arith), part_none f (5 + 1) 5 (omega arith))

  -- a digit more is ten times the value, and the digit
  pub text_turn : (d n : ℕ) → n ≡ min (length f) 15 → i < n → (i ≡ 5 → ⊥) → d ≡ get_or f i 0 - 48 → value_f (v * 10 + d) (digits_left f (i + 1)) ≡ x
  unfolding value_f
  text_turn d n m h k q = rw q (rw (left_turn f i (omega (arith, m)) (omega (arith, m)) k) at e)

  -- after the ninth of the second run none is left, nor past the end
  pub text_done : (n : ℕ) → n ≡ min (length f) 15 → n ≤ i → v ≡ x
  unfolding value_f
  text_done n m h = go (dec_lt i 15)
    where
      go : Dec (i < 15) → v ≡ x
      go (yes p) = rw (left_over f i (omega (arith, m))) at e
      go (no p) = rw (le-ltb i 6 (omega arith), part_none f i 5 (omega arith), part_none f i 15 (omega arith)) at e

-- what is worth less than 23 * 10 ^ i is worth less than one byte more
pub worth_letter : (v i : ℕ) → v + 23 ≤ 23 * 10 ^ i → v + 23 ≤ 23 * 10 ^ (i + 1)
worth_letter v i h = rw (add-one, pow-suc 10 i) (omega arith)

-- so fifteen bytes fit
pub text_fits : (v i d n k : ℕ) → v + 23 ≤ 23 * 10 ^ i → n ≡ min k 15 → i < n → d ≤ 207 → Fits w64 (v * 10 + d)
text_fits v i d n k h m j l = worth_fits v i 15 d h (omega (arith, m)) (omega arith) l

-- and fourteen, ten times
pub text_ten_fits : (v i n k : ℕ) → v + 23 ≤ 23 * 10 ^ i → n ≡ min k 15 → i < n → Fits w64 (v * 10)
text_ten_fits v i n k h m j = ten_fits v i 15 h (omega (arith, m)) (omega arith)

pub ruleset digits = (rules, text_start, text_letter, text_turn, text_done, worth_letter, worth_turn, text_fits, text_ten_fits)

-- ---- a text's digits in two runs

-- what stands before digits is worth ten times as much for each of them
value_more : (a : ℕ) (t : List ℕ) → value_f a t ≡ a * 10 ^ length t + value_f 0 t
unfolding value_f
value_more a [] = omega arith
value_more a (x ∷ t) =
    let n = 10 ^ length t in
    let d = x - 48 in
    let p : (a * 10 + d) * n ≡ a * (n * 10) + d * n = add-mul (a * 10) d n ∙ ap (λ z. z + d * n) (mul_assoc a 10 n ∙ ap (λ z. a * z) (mul_comm 10 n)) in
    let q : (0 * 10 + d) * n ≡ d * n = ap (λ z. z * n) (omega arith) in
    let r : a * 10 ^ suc (length t) ≡ a * (n * 10) = ap (λ z. a * z) (pow-suc 10 (length t)) in
    let u = value_more (a * 10 + d) t in
    let v = value_more (0 * 10 + d) t in
    omega (arith, p, q, r, u, v)

-- two runs are worth the first, moved on, and the second
value_two : (a : ℕ) (s t : List ℕ) → value_f a (s ++ t) ≡ value_f a s * 10 ^ length t + value_f 0 t
unfolding value_f
value_two a [] t = value_more a t
value_two a (x ∷ s) t = value_two (a * 10 + (x - 48)) s t

-- a run of bytes is worth less than 23 * 10 ^ its length
value_least : (v i : ℕ) (t : List ℕ) → ((j : ℕ) → j < length t → get_or t j 0 - 48 ≤ 207) → v + 23 ≤ 23 * 10 ^ i → value_f v t + 23 ≤ 23 * 10 ^ (i + length t)
unfolding value_f
value_least v i [] b h = let z : i + 0 ≡ i = omega arith in rw z h
value_least v i (x ∷ t) b h =
    let z : i + suc (length t) ≡ i + 1 + length t = omega arith in
    rw z (value_least (v * 10 + (x - 48)) (i + 1) t (λ j l. b (suc j) (omega arith)) (worth_turn v i (x - 48) h (b 0 (omega arith))))

module _ (f : List ℕ) (b : (i : ℕ) → Fits w8 (get_or f i 0)) where
  -- so is a part
  part_least : (a e : ℕ) → a ≤ e → e ≤ length f → value (part f a e) + 23 ≤ 23 * 10 ^ (e - a)
  unfolding value part
  part_least a e h k =
      let z : 0 + length (part f a e) ≡ e - a = omega (arith, length-take (e - a) (drop a f), length-drop a f) in
      rw z at (value_least 0 0 (part f a e) (λ j l. worth j (omega (arith, length-take (e - a) (drop a f)))) (omega arith))
    where
      worth : (j : ℕ) → j < e - a → get_or (part f a e) j 0 - 48 ≤ 207
      worth j l = rw (get_or-take (e - a) (drop a f) j 0 l, get_or-drop a f j 0) (omega (arith, b (a + j)))

  module _ (h : length f ≡ 16) (v : ℕ) (p : v ≡ value (take (5 - 1) (drop 1 f))) where
    -- four of them, moved on by nine, fit
    pub four_fits : Fits w64 (v * 1000000000)
    unfolding part
    four_fits = omega (arith, part_least 1 5 (omega arith) (omega arith))

    -- and nine more
    pub nine_fits : (w : ℕ) → w ≡ value (take (15 - 6) (drop 6 f)) → Fits w64 (v * 1000000000 + w)
    unfolding part
    nine_fits w q = omega (arith, part_least 1 5 (omega arith) (omega arith), part_least 6 15 (omega arith) (omega arith))

-- a text's number is that of both runs
pub text_two : (f : List ℕ) (v w : ℕ) → length f ≡ 16 → v ≡ value (take (5 - 1) (drop 1 f)) → w ≡ value (take (15 - 6) (drop 6 f)) → v * 1000000000 + w ≡ value (digits_in f)
unfolding value digits_in part
text_two f v w h p q =
    let z : length (part f 6 15) ≡ 9 = omega (arith, length-take 9 (drop 6 f), length-drop 6 f) in
    rw (p, q) (sym (value_two 0 (part f 1 5) (part f 6 15) ∙ rw z))

pub ruleset runs = (rules, four_fits, nine_fits, text_two)

-- ---- a field's number

module _ (m : Form) (f : List ℕ) (t : Bool) (p : t ≡ is_textual m) (n : ℕ) where
  -- a text's is that of its digits
  pub number_text : t ≡ true → n ≡ value (digits_in f) → n ≡ number_of m f
  unfolding number_of
  number_text q e = rw (sym p ∙ q) e

  -- a number's is its value
  pub number_plain : t ≡ false → n ≡ value (take 16 f) → n ≡ number_of m f
  unfolding number_of
  number_plain q e = rw (sym p ∙ q) e

-- ---- the form that the table has at a place

-- past the last row there is none
pub form_none : (kd : Kind) (l : Layout) (k : ℕ) → l ≡ laid_out kd → l.count ≤ k → number 0 ≡ (row_of kd k).0
unfolding row_of laid_out
form_none kd l k e h = ap (λ r. r.0) (sym (past (map bare (fields kd)) k (rw (length-map, ← ap (λ x. x.count) e) h)))
  where
    past : (rs : List Row) (k : ℕ) → length rs ≤ k → get_or rs k no_row ≡ no_row
    past [] k h = refl
    past (r ∷ rs) zero h = absurd (omega arith)
    past (r ∷ rs) (suc k) h = past rs k (omega arith)

-- a row says its field's form
pub form_is : (row : ℕ) (p : Row) (m : Form) → decoded row ≡ p → m ≡ form_decoded row → m ≡ p.0
form_is row p m d e = rw (← d) e

pub ruleset rows = (rules, count_there, form_none, form_is)

-- ---- what stands at a place

module _ (k : Kind) (c : List ℕ) (p : ℕ) where
  -- before the content there is no number
  pub number_none : p < 4 → 0 ≡ number_at k c p
  unfolding number_at
  number_none h = rw (lt-ltb p 4 h)

  -- and nothing that is filled
  pub empty_none : p < 4 → true ≡ empty_at k c p
  unfolding empty_at
  empty_none h = rw (lt-ltb p 4 h)

  module _ (m : Form) (f : List ℕ) (h : 4 ≤ p) (u : m ≡ (row_of k (p - 1)).0) (v : f ≡ get_or (fields_of c) (p - 4) []) where
    -- else the field's number is there
    pub number_there : (n : ℕ) → n ≡ number_of m f → n ≡ number_at k c p
    unfolding number_at field_at
    number_there n e = rw (le-ltb p 4 h, ← u, ← v) e

    -- and whether it is empty
    pub empty_there : (b : Bool) → b ≡ is_empty m f → b ≡ empty_at k c p
    unfolding empty_at field_at
    empty_there b e = rw (le-ltb p 4 h, ← u, ← v) e
