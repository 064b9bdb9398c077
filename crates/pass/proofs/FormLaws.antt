-- A field of any form is tidy.
use mathlib.Core.Path.{◌≡◌, refl, sym, ◌∙◌}
use mathlib.Core.Bool.{Bool, true, false, not, ◌&&◌, ◌||◌}
use mathlib.Core.List.{List, [], ◌∷◌, ◌++◌}
use Prim.Native.Nat.{ℕ, ◌+◌, ◌-◌, ◌≤◌, ◌<◌}
use native.Mathlib.Omega.{arith}
use lib.Dec.{T, eqb, leb, eqb→eq, leb→le}
use lib.ListN.{length, take, drop, take-append-drop}
use lib.Seq.{drop-drop}
use mir.Facts.{no_eqb}
use Rattle.base.specs.Lists.{all, pick, same, part, up_to, past, bytes}
use Rattle.base.specs.Tests.{and_in, and_l, and_r, T_false}
use Rattle.base.specs.ListLaws.{all_map, all_append, same_eq}
use Rattle.base.proofs.Walk.{at_end_lem}
use Rattle.meaning.specs.Lines.{is_sep, turned, plain}
use Rattle.meaning.specs.Forms.{Form, number, at_least1, decimal, date, time, text, change_type, xref_type, file_type, key_text, is_digit, is_number, is_digits, unsigned, is_decimal, is_day, is_date, is_time, is_text_byte, quoted, inside, by_characters, is_text, one_of, is_key, has_form, is_textual, is_empty, sound_as}
use Rattle.theory.specs.Decimal.{value}
use Rattle.laws.specs.ContentLaws.{text_quoted, text_content}
use Rattle.pass.specs.Tidy.{tidy}

-- neither a comma nor a quote, CR or LF
unfoldable calm : ℕ → Bool
calm x = (not (eqb x 44) && not (eqb x 34)) && plain x

-- calm bytes are tidy
calm_tidy : (f : List ℕ) → T (all calm f) → T (tidy false f)
unfolding tidy calm is_sep turned
calm_tidy [] h = tt
calm_tidy (x ∷ f) h =
    let c = and_l (calm x) (all calm f) h in
    let q = and_l (not (eqb x 44) && not (eqb x 34)) (plain x) c in
    let n : eqb x 34 ≡ false = T_false (eqb x 34) (and_r (not (eqb x 44)) (not (eqb x 34)) q) in
    and_in (not (eqb x 44) && plain x) (tidy (pick (eqb x 34) true false) f)
    (and_in (not (eqb x 44)) (plain x) (and_l (not (eqb x 44)) (not (eqb x 34)) q) (and_r (not (eqb x 44) && not (eqb x 34)) (plain x) c))
    (rw n (calm_tidy f (and_r (calm x) (all calm f) h)))

-- a byte above the comma is calm
calm_high : (x : ℕ) → 44 < x → T (calm x)
unfolding calm plain
calm_high x h =
    and_in (not (eqb x 44) && not (eqb x 34)) (not (eqb x 13) && not (eqb x 10))
    (and_in (not (eqb x 44)) (not (eqb x 34)) (no_eqb {a = x} {b = 44} (λ e. omega arith)) (no_eqb {a = x} {b = 34} (λ e. omega arith)))
    (and_in (not (eqb x 13)) (not (eqb x 10)) (no_eqb {a = x} {b = 13} (λ e. omega arith)) (no_eqb {a = x} {b = 10} (λ e. omega arith)))

-- a digit is calm
calm_digit : (x : ℕ) → T (is_digit x) → T (calm x)
unfolding is_digit
calm_digit x h = let l : 48 ≤ x = leb→le 48 x (and_l (leb 48 x) (leb x 57) h) in calm_high x (omega arith)

calm_digits : (f : List ℕ) → T (all is_digit f) → T (all calm f)
calm_digits f h = all_map is_digit calm calm_digit f h

-- ---- numbers

number_calm : (w : ℕ) (f : List ℕ) → T (is_number w f) → T (all calm f)
unfolding is_number
number_calm w f h = calm_digits f (and_r (leb (length f) w) (all is_digit f) (and_r (leb 1 (length f)) (leb (length f) w && all is_digit f) h))

digits_calm : (d : ℕ) (f : List ℕ) → T (is_digits d f) → T (all calm f)
unfolding is_digits
digits_calm d f h = calm_digits f (and_r (eqb (length f) d) (all is_digit f) h)

-- ---- a point between calm bytes

point_calm : (f : List ℕ) → T (all calm (up_to 46 f)) → T (all calm (past 46 f)) → T (all calm f)
unfolding up_to past
point_calm [] h k = tt
point_calm (x ∷ f) h k = go (eqb x 46) refl h k (point_calm f)
  where
    go :
        (b : Bool) → eqb x 46 ≡ b → T (all calm (pick b [] (x ∷ up_to 46 f))) → T (all calm (pick b f (past 46 f)))
        → (T (all calm (up_to 46 f)) → T (all calm (past 46 f)) → T (all calm f)) → T (calm x && all calm f)
    go true e h k ih = let z : x ≡ 46 = eqb→eq x 46 (rw e tt) in and_in (calm x) (all calm f) (calm_high x (omega arith)) k
    go false e h k ih = and_in (calm x) (all calm f) (and_l (calm x) (all calm (up_to 46 f)) h) (ih (and_r (calm x) (all calm (up_to 46 f)) h) k)

minus_calm : (f : List ℕ) → T (all calm (unsigned f)) → T (all calm f)
unfolding unsigned
minus_calm [] h = tt
minus_calm (x ∷ f) h = go (eqb x 45) refl h
  where
    go : (b : Bool) → eqb x 45 ≡ b → T (all calm (pick b f (x ∷ f))) → T (calm x && all calm f)
    go true e h = let z : x ≡ 45 = eqb→eq x 45 (rw e tt) in and_in (calm x) (all calm f) (calm_high x (omega arith)) h
    go false e h = h

decimal_calm : (w d : ℕ) (f : List ℕ) → T (is_decimal w d f) → T (all calm f)
unfolding is_decimal
decimal_calm w d f h =
    minus_calm f (point_calm (unsigned f) (number_calm w (up_to 46 (unsigned f)) (and_l (is_number w (up_to 46 (unsigned f))) (is_digits d (past 46 (unsigned f))) h))
    (digits_calm d (past 46 (unsigned f)) (and_r (is_number w (up_to 46 (unsigned f))) (is_digits d (past 46 (unsigned f))) h)))

-- ---- parts one after another

-- a calm part, and calm bytes after it
part_calm : (f : List ℕ) (a e : ℕ) → a ≤ e → T (all calm (part f a e)) → T (all calm (drop e f)) → T (all calm (drop a f))
unfolding part
part_calm f a e l h k =
    let n : a + (e - a) ≡ e = omega arith in
    let z : drop a f ≡ take (e - a) (drop a f) ++ drop e f = sym (take-append-drop (e - a) (drop a f)) ∙ rw (drop-drop (e - a) a f, n) in
    rw z (all_append calm (take (e - a) (drop a f)) (drop e f) h k)

-- a byte above the comma
byte_calm : (f : List ℕ) (x : ℕ) → 44 < x → T (same f (x ∷ [])) → T (all calm f)
byte_calm f x l h = rw (same_eq f (x ∷ []) h) (and_in (calm x) true (calm_high x l) tt)

date_calm : (f : List ℕ) → T (is_date f) → T (all calm f)
unfolding is_date
date_calm f h =
    let n : length f ≡ 10 = eqb→eq (length f) 10 (and_l (eqb (length f) 10) _ h) in
    let b = and_l (is_digits 4 (part f 0 4) && (same (part f 4 5) (45 ∷ []) && (is_digits 2 (part f 5 7) && (same (part f 7 8) (45 ∷ []) && is_digits 2 (part f 8 10))))) (is_day (value (part f 0 4)) (value (part f 5 7)) (value (part f 8 10))) (and_r (eqb (length f) 10) _ h) in
    let b1 = and_r (is_digits 4 (part f 0 4)) _ b in
    let b2 = and_r (same (part f 4 5) (45 ∷ [])) _ b1 in
    let b3 = and_r (is_digits 2 (part f 5 7)) _ b2 in
    let e : T (all calm (drop 10 f)) = rw (at_end_lem f 10 (omega arith)) tt in
    part_calm f 0 4 (omega arith) (digits_calm 4 (part f 0 4) (and_l (is_digits 4 (part f 0 4)) _ b))
    (part_calm f 4 5 (omega arith) (byte_calm (part f 4 5) 45 (omega arith) (and_l (same (part f 4 5) (45 ∷ [])) _ b1))
    (part_calm f 5 7 (omega arith) (digits_calm 2 (part f 5 7) (and_l (is_digits 2 (part f 5 7)) _ b2))
    (part_calm f 7 8 (omega arith) (byte_calm (part f 7 8) 45 (omega arith) (and_l (same (part f 7 8) (45 ∷ [])) (is_digits 2 (part f 8 10)) b3))
    (part_calm f 8 10 (omega arith) (digits_calm 2 (part f 8 10) (and_r (same (part f 7 8) (45 ∷ [])) (is_digits 2 (part f 8 10)) b3)) e))))

-- ---- texts

-- bytes of a text, and a quote after them, where a quote is open
text_on : (t : List ℕ) → T (all is_text_byte t) → T (tidy true (t ++ (34 ∷ [])))
unfolding tidy is_text_byte is_sep turned plain
text_on [] h = tt
text_on (x ∷ t) h =
    let b = and_l (is_text_byte x) (all is_text_byte t) h in
    let l : 32 ≤ x = leb→le 32 x (and_l (leb 32 x) (not (eqb x 34) && not (eqb x 127)) b) in
    let n : eqb x 34 ≡ false = T_false (eqb x 34) (and_l (not (eqb x 34)) (not (eqb x 127)) (and_r (leb 32 x) (not (eqb x 34) && not (eqb x 127)) b)) in
    and_in (not (eqb x 13) && not (eqb x 10)) (tidy (pick (eqb x 34) false true) (t ++ (34 ∷ [])))
    (and_in (not (eqb x 13)) (not (eqb x 10)) (no_eqb {a = x} {b = 13} (λ e. omega arith)) (no_eqb {a = x} {b = 10} (λ e. omega arith)))
    (rw n (text_on t (and_r (is_text_byte x) (all is_text_byte t) h)))

text_tidy : (w : ℕ) (f : List ℕ) → T (is_text by_characters w f) → T (tidy false f)
unfolding by_characters
text_tidy w f h =
    rw (text_quoted by_characters w f h) (opened (inside f) (and_l (all is_text_byte (inside f)) _ (text_content by_characters w f h)))
  where
    opened : (t : List ℕ) → T (all is_text_byte t) → T (tidy false (quoted t))
    opened t k = unfold tidy is_sep turned plain in text_on t k

-- ---- codes

-- one of some tidy values
one_tidy : (vs : List (List ℕ)) (f : List ℕ) → T (all (tidy false) vs) → T (one_of vs f) → T (tidy false f)
unfolding one_of
one_tidy [] f t h = absurd h
one_tidy (v ∷ vs) f t h = go (same f v) refl h (one_tidy vs f (and_r (tidy false v) (all (tidy false) vs) t))
  where
    go : (b : Bool) → same f v ≡ b → T (b || one_of vs f) → (T (one_of vs f) → T (tidy false f)) → T (tidy false f)
    go true e k ih = rw (same_eq f v (rw e tt)) (and_l (tidy false v) (all (tidy false) vs) t)
    go false e k ih = ih k

-- ---- any form

form_tidy : (m : Form) (f : List ℕ) → T (has_form by_characters m f) → T (tidy false f)
unfolding has_form is_time is_key
form_tidy (number w) f h = calm_tidy f (number_calm w f h)
form_tidy (at_least1 w) f h = calm_tidy f (number_calm w f (and_l (is_number w f) (leb 1 (value f)) h))
form_tidy (decimal w d) f h = calm_tidy f (decimal_calm w d f h)
form_tidy date f h = calm_tidy f (date_calm f h)
form_tidy time f h = calm_tidy f (digits_calm 6 f (and_l (is_digits 6 f) _ h))
form_tidy (text w) f h = text_tidy w f h
form_tidy change_type f h = unfold tidy bytes is_sep turned plain in one_tidy _ f tt h
form_tidy xref_type f h = unfold tidy bytes is_sep turned plain in one_tidy _ f tt h
form_tidy file_type f h = unfold tidy bytes is_sep turned plain in one_tidy _ f tt h
form_tidy (key_text letter) f h = text_tidy 14 f (and_l (is_text by_characters 14 f) _ h)

-- a sound field is tidy, empty or filled
pub sound_tidy : (m : Form) (filled : Bool) (f : List ℕ) → sound_as by_characters m filled f ≡ true → T (tidy false f)
unfolding sound_as is_empty
sound_tidy m filled f h = go (is_textual m) (same f (pick (is_textual m) (34 ∷ 34 ∷ []) [])) refl h
  where
    go : (t : Bool) (b : Bool) → same f (pick t (34 ∷ 34 ∷ []) []) ≡ b → pick b (not filled) (has_form by_characters m f) ≡ true → T (tidy false f)
    go t false e k = form_tidy m f (rw k tt)
    go true true e k = rw (same_eq f (34 ∷ 34 ∷ []) (rw e tt)) (unfold tidy is_sep turned plain in tt)
    go false true e k = rw (same_eq f [] (rw e tt)) (unfold tidy in tt)
