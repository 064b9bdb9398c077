-- No sound field is longer than its form allows; so what is longer begins none.
use mathlib.Core.Path.{◌≡◌, refl, sym, ap}
use mathlib.Core.Bool.{Bool, true, false, not, ◌&&◌, ◌||◌}
use mathlib.Core.List.{List, [], ◌∷◌, ◌++◌, append-nil}
use Prim.Native.Nat.{ℕ, zero, suc, ◌+◌, ◌*◌, ◌-◌, ◌/◌, ◌%◌, ◌≤◌, ◌<◌}
use native.Mathlib.Omega.{arith}
use borrow.Author.Rules.{rules}
use lib.Dec.{T, eqb, leb, leb→le, eqb→eq}
use lib.ListN.{length, drop, length-append}
use Rattle.base.specs.Lists.{all, pick, same, up_to, past, bytes}
use Rattle.base.specs.Tests.{and_l, and_r, same_test}
use Rattle.base.specs.ListLaws.{same_eq}
use Rattle.theory.specs.Decimal.{value}
use Rattle.meaning.specs.Forms.{Form, number, at_least1, decimal, date, time, text, change_type, xref_type, file_type, key_text, is_digit, is_number, is_digits, unsigned, is_decimal, is_date, is_time, is_text_byte, quoted, inside, by_characters, change_types, xref_types, file_types, one_of, is_text, is_key, has_form, is_textual, empty_of, is_empty, sound_as}
use Rattle.meaning.specs.Place.{goes_on, begins}
use Rattle.laws.specs.CharacterLaws.{most_bytes}
use Rattle.form.specs.Meant.{meant}
use Rattle.form.specs.declared.Form.{Form as Code}
use Rattle.form.specs.declared.Form.TheVariants.{Decimal, Text}
use Rattle.layout.specs.Rows.{form_decoded, filled_decoded, sound_by}
use Rattle.layout.specs.Longest.{longest, most_of_any}

-- ---- the forms

-- what stands before a byte and after it is all but that byte
parted : (x : ℕ) (g : List ℕ) → length g ≤ suc (length (up_to x g) + length (past x g))
unfolding up_to past
parted x [] = omega arith
parted x (y ∷ g) = go (eqb y x) (parted x g)
  where
    go : (b : Bool) → length g ≤ suc (length (up_to x g) + length (past x g)) → suc (length g) ≤ suc (length (pick b [] (y ∷ up_to x g)) + length (pick b g (past x g)))
    go true h = omega arith
    go false h = omega arith

-- a minus is one byte
signed : (f : List ℕ) → length f ≤ suc (length (unsigned f))
unfolding unsigned
signed [] = omega arith
signed (x ∷ r) = go (eqb x 45)
  where
    go : (b : Bool) → suc (length r) ≤ suc (length (pick b r (x ∷ r)))
    go true = omega arith
    go false = omega arith

number_most : (w : ℕ) (f : List ℕ) → T (is_number w f) → length f ≤ w
unfolding is_number
number_most w f t = leb→le (length f) w (and_l (leb (length f) w) (all is_digit f) (and_r (leb 1 (length f)) (leb (length f) w && all is_digit f) t))

digits_are : (d : ℕ) (f : List ℕ) → T (is_digits d f) → length f ≡ d
unfolding is_digits
digits_are d f t = eqb→eq (length f) d (and_l (eqb (length f) d) (all is_digit f) t)

decimal_most : (w d : ℕ) (f : List ℕ) → T (is_decimal w d f) → length f ≤ 2 + w + d
unfolding is_decimal
decimal_most w d f t =
    let g = unsigned f in
    let n = number_most w (up_to 46 g) (and_l (is_number w (up_to 46 g)) (is_digits d (past 46 g)) t) in
    let m = digits_are d (past 46 g) (and_r (is_number w (up_to 46 g)) (is_digits d (past 46 g)) t) in
    omega (arith, signed f, parted 46 g)

text_most : (w : ℕ) (f : List ℕ) → T (is_text by_characters w f) → length f ≤ 2 + 4 * w
unfolding is_text by_characters
text_most w f t =
    let e = same_eq f (quoted (inside f)) (and_l (same f (quoted (inside f))) _ t) in
    let n = most_bytes w [] (inside f) (and_r (all is_text_byte (inside f)) _ (and_r (same f (quoted (inside f))) _ t)) in
    omega (arith, ap length e, length-append (inside f) (34 ∷ []))

-- values that are all of one length
one_most : (n : ℕ) (vs : List (List ℕ)) (f : List ℕ) → T (all (λ v. eqb (length v) n) vs) → T (one_of vs f) → length f ≤ n
unfolding one_of
one_most n [] f h t = absurd t
one_most n (v ∷ vs) f h t = go (same f v) refl (one_most n vs f (and_r (eqb (length v) n) _ h)) t
  where
    go : (b : Bool) → same f v ≡ b → (T (one_of vs f) → length f ≤ n) → T (b || one_of vs f) → length f ≤ n
    go true e r u = omega (arith, ap length (same_eq f v (rw e tt)), eqb→eq (length v) n (and_l (eqb (length v) n) _ h))
    go false e r u = r u

form_most : (m : Form) (f : List ℕ) → T (has_form by_characters m f) → length f ≤ longest m
unfolding has_form longest is_date is_time is_key bytes
form_most (number w) f t = number_most w f t
form_most (at_least1 w) f t = number_most w f (and_l (is_number w f) (leb 1 (value f)) t)
form_most (decimal w d) f t = decimal_most w d f t
form_most date f t = omega (arith, eqb→eq (length f) 10 (and_l (eqb (length f) 10) _ t))
form_most time f t = omega (arith, digits_are 6 f (and_l (is_digits 6 f) _ t))
form_most (text w) f t = text_most w f t
form_most change_type f t = one_most 3 change_types f tt t
form_most xref_type f t = one_most 1 xref_types f tt t
form_most file_type f t = one_most 3 file_types f tt t
form_most (key_text letter) f t = omega (arith, eqb→eq (length f) 16 (and_l (eqb (length f) 16) _ (and_r (is_text by_characters 14 f) _ t)))

-- the empty field is no longer than a filled one
empty_most : (m : Form) → length (empty_of m) ≤ longest m
unfolding is_textual longest
empty_most (number w) = omega arith
empty_most (at_least1 w) = omega arith
empty_most (decimal w d) = omega arith
empty_most date = omega arith
empty_most time = omega arith
empty_most (text w) = omega arith
empty_most change_type = omega arith
empty_most xref_type = omega arith
empty_most file_type = omega arith
empty_most (key_text letter) = omega arith

sound_most : (m : Form) (filled : Bool) (f : List ℕ) → T (sound_as by_characters m filled f) → length f ≤ longest m
unfolding sound_as is_empty
sound_most m filled f t = go (same f (empty_of m)) refl t
  where
    go : (b : Bool) → same f (empty_of m) ≡ b → T (pick b (not filled) (has_form by_characters m f)) → length f ≤ longest m
    go true e u = omega (arith, ap length (same_eq f (empty_of m) (rw e tt)), empty_most m)
    go false e u = form_most m f u

-- ---- what is longer begins no sound field

module _ (sound : List ℕ → Bool) (n : ℕ) (most : (f : List ℕ) → T (sound f) → length f ≤ n) (p : List ℕ) where
  none : (e : List ℕ) → n < length p + length e → sound (p ++ e) ≡ false
  none e h = same_test (sound (p ++ e)) false (λ t. omega (arith, most (p ++ e) t, length-append p e)) (λ t. absurd t)

  goes_none : (s : List ℕ) → n < length p → goes_on sound p s ≡ false
  unfolding goes_on
  goes_none [] h = let e = none [] (omega arith) in rw append-nil at e
  goes_none (x ∷ s) h = rw (none (x ∷ s) (omega arith)) (goes_none s h)

  begins_none : (ss : List (List ℕ)) → n < length p → begins sound ss p ≡ false
  unfolding begins
  begins_none [] h = refl
  begins_none (s ∷ ss) h = rw (goes_none s h) (begins_none ss h)

  -- nor does an end that makes the bytes longer go on
  over : (s : List ℕ) (i : ℕ) → n + i ≤ length p + length s → goes_on sound p (drop i s) ≡ goes_on sound p s
  unfolding goes_on
  over s zero h = refl
  over [] (suc i) h = refl
  over (x ∷ s) (suc i) h = rw (none (x ∷ s) (omega arith)) (over s i (omega arith))

-- ---- a row

-- what a row says of a width keeps its form within what a place can be asked of
pub row_most : (row : ℕ) → longest (form_decoded row) ≤ most_of_any
unfolding form_decoded longest
row_most row = go (eqb (row % 16) 0) (eqb (row % 16) 1) (eqb (row % 16) 2) (eqb (row % 16) 3) (eqb (row % 16) 4) (eqb (row % 16) 5) (eqb (row % 16) 6) (eqb (row % 16) 7) (eqb (row % 16) 8)
  where
    w : ℕ
    w = row / 16 % 256

    d : ℕ
    d = row / 4096 % 16

    go : (a b c e f g h i j : Bool)
        → longest (pick a (number w) (pick b (at_least1 w) (pick c (decimal w d) (pick e date (pick f time (pick g (text w) (pick h change_type (pick i xref_type (pick j file_type (key_text w)))))))))) ≤ most_of_any
    go true b c e f g h i j = omega arith
    go false true c e f g h i j = omega arith
    go false false true e f g h i j = omega arith
    go false false false true f g h i j = omega arith
    go false false false false true g h i j = omega arith
    go false false false false false true h i j = omega arith
    go false false false false false false true i j = omega arith
    go false false false false false false false true j = omega arith
    go false false false false false false false false true = omega arith
    go false false false false false false false false false = omega arith

module _ (row : ℕ) (p : List ℕ) (n : ℕ) (l : n ≡ longest (form_decoded row)) where
  pub begins_longer : (ss : List (List ℕ)) → n < length p → false ≡ begins (sound_by row) ss p
  begins_longer ss h = sym (begins_none (sound_by row) (longest (form_decoded row)) (sound_most (form_decoded row) (filled_decoded row)) p ss (omega arith))

  -- so the ends are tried from the first that doesn't
  pub goes_over : (s : List ℕ) (i : ℕ) → i ≡ length p + length s - n → goes_on (sound_by row) p (drop i s) ≡ goes_on (sound_by row) p s
  goes_over s zero e = refl
  goes_over s (suc i) e = over (sound_by row) (longest (form_decoded row)) (sound_most (form_decoded row) (filled_decoded row)) p s (suc i) (omega arith)

-- what is no longer than a row's form allows is no longer than any
pub short_row_lem : (row n : ℕ) → n ≤ longest (form_decoded row) → n ≤ most_of_any
short_row_lem row n h = omega (arith, row_most row)

-- nor is a width
module _ (row : ℕ) (form : Code) (m : meant form ≡ form_decoded row) where
  pub wide_decimal : (w d : ℕ) → form ≡ Decimal w d → 2 + w + d ≤ most_of_any
  unfolding longest
  wide_decimal w d e = let h = row_most row in rw (← m, e) at h

  pub wide_text : (w : ℕ) → form ≡ Text w → 2 + 4 * w ≤ most_of_any
  unfolding longest
  wide_text w e = let h = row_most row in rw (← m, e) at h

  -- the most bytes, in the arm of a form
  pub most_arm : (arm : Code) (n : ℕ) → form ≡ arm → n ≡ longest (meant arm) → n ≡ longest (form_decoded row)
  most_arm arm n e h = rw (← m, e) h

pub ruleset widest = (rules, most_arm)
