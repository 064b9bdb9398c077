-- The laws of the leaves: how what they test says that what they saw is a field of their form.
use mathlib.Core.Path.{◌≡◌, refl, sym, ap, ◌∙◌}
use mathlib.Core.Bool.{Bool, true, false, not, ◌&&◌, and-false}
use mathlib.Core.Logic.{◌⊎◌, inl, inr}
use mathlib.Core.List.{List, [], ◌∷◌, ◌++◌}
use Prim.Native.Nat.{ℕ, ◌+◌, ◌-◌, ◌%◌, ◌≤◌, ◌<◌}
use native.Mathlib.Decide.{dec_le}
use native.Mathlib.Omega.{arith}
use borrow.Author.Tests.{not-true, le-leb, ne_eqb}
use lib.Dec.{T, eqb, leb}
use lib.ListN.{length, get_or, take, drop}
use lib.Seq.{get_or-take, get_or-drop}
use Rattle.std.specs.Prelude.{Option, None, Some, IfSome}
use Rattle.std.specs.Bool.{then_some}
use Rattle.std.specs.Int.{from_bool}
use Rattle.base.specs.Lists.{all, pick, same, up_to, past, bytes}
use Rattle.base.specs.ListLaws.{same_eq}
use Rattle.base.specs.Tests.{and_l, and_r, T_true}
use Rattle.theory.specs.Decimal.{value}
use Rattle.meaning.specs.Forms.{Form, number, at_least1, decimal, date, time, text, change_type, xref_type, file_type, key_text, is_digit, is_number, is_digits, unsigned, is_decimal, is_date, is_time, quoted, by_characters, is_text, one_of, is_key, has_form, is_textual, empty_of, is_empty, sound_as}
use Rattle.laws.specs.Digits.{digit_low}
use Rattle.laws.specs.ContentLaws.{text_in_lem}
use Rattle.laws.specs.AsciiLaws.{is_free_text}
use Rattle.form.specs.Characters.{is_ascii_text}
use Rattle.form.specs.Meant.{meant}
use Rattle.form.specs.declared.Form.{Form as Code}
use Rattle.form.specs.declared.Form.TheVariants.{Decimal}
use Rattle.form.proofs.CharacterLaws.{ascii_width}
use Rattle.layout.specs.Rows.{form_decoded, filled_decoded, sound_by}
use Rattle.words.specs.Words.{upto}
use Rattle.pass.specs.Past.{Seen, Past}
use Rattle.pass.proofs.UptoLaws.{upto_then, upto_one, upto_first, upto_length}

-- ---- a leaf's answer

-- what holds of a value if a test holds, holds of what is answered if it does
pub some_if : (P : ℕ → Type 0) (b : Bool) (r : ℕ) (o : Option ℕ) → o ≡ then_some b r → (b ≡ true → P r) → IfSome o P
some_if P true r o e f = rw e (f refl)
some_if P false r o e f = rw e tt

-- what is tested where it stands
pub seen_tested :
    (test : List ℕ → Bool) (s : List ℕ) (at r : ℕ) (b : Bool) → at ≤ r → r < length s → b ≡ test (upto s at r) → b ≡ true → Seen test s at r
seen_tested test s at r b h l e t = record { forward = h; inside = l; holds = sym e ∙ t }

-- what is seen if a test holds, is answered if it does
pub past_if : (test : List ℕ → Bool) (s : List ℕ) (at r : ℕ) (b : Bool) (o : Option ℕ) → o ≡ then_some b r → (b ≡ true → Seen test s at r) → Past test s at o
past_if test s at r b o e f = some_if (λ x. Seen test s at x) b r o e f

-- the test is that of what stands there
pub past_tested :
    (test : List ℕ → Bool) (s : List ℕ) (at r : ℕ) (b : Bool) (o : Option ℕ) → at ≤ r → r < length s → b ≡ test (upto s at r) → o ≡ then_some b r
    → Past test s at o
past_tested test s at r b o h l e q = past_if test s at r b o q (seen_tested test s at r b h l e)

-- so many bytes, where what was tested of them says that they are so
pub past_some :
    (test : List ℕ → Bool) (s : List ℕ) (at n : ℕ) (b : Bool) (o : Option ℕ) → at + n < length s → (b ≡ true → test (take n (drop at s)) ≡ true)
    → o ≡ then_some b (at + n) → Past test s at o
past_some test s at n b o l f q =
    let z : at + n - at ≡ n = omega arith in
    past_if test s at (at + n) b o q (λ t. record { forward = omega arith; inside = l; holds = rw z (f t) })

-- no bytes
pub past_none :
    (test : List ℕ → Bool) (s : List ℕ) (at : ℕ) (b : Bool) (o : Option ℕ) → at < length s → (b ≡ true → test [] ≡ true) → o ≡ then_some b at → Past test s at o
past_none test s at b o l f q =
    let z : at - at ≡ 0 = omega arith in
    past_if test s at at b o q (λ t. record { forward = omega arith; inside = l; holds = rw z (f t) })

-- another test, that holds where the first does
past_as : (p q : List ℕ → Bool) (s : List ℕ) (at : ℕ) (o : Option ℕ) → ((f : List ℕ) → p f ≡ true → q f ≡ true) → Past p s at o → Past q s at o
past_as p q s at None f h = tt
past_as p q s at (Some r) f h = record { forward = h.forward; inside = h.inside; holds = f (upto s at r) h.holds }

-- ---- bytes that are known

-- one
one_seen : (test : List ℕ → Bool) (s : List ℕ) (at x : ℕ) → at + 1 < length s → get_or s at 0 ≡ x → test (x ∷ []) ≡ true → Seen test s at (at + 1)
one_seen test s at x l e t = record { forward = omega arith; inside = l; holds = rw (upto_one s at (omega arith), e) t }

-- one of two
pub either_seen :
    (test : List ℕ → Bool) (s : List ℕ) (at x : ℕ) → at + 1 < length s → x ≤ get_or s at 0 → get_or s at 0 ≤ x + 1 → test (x ∷ []) ≡ true
    → test ((x + 1) ∷ []) ≡ true → Seen test s at (at + 1)
either_seen test s at x l h k t u = go (dec_le (get_or s at 0) x)
  where
    go : Dec (get_or s at 0 ≤ x) → Seen test s at (at + 1)
    go (yes m) = one_seen test s at x l (omega arith) t
    go (no m) = one_seen test s at (x + 1) l (omega arith) u

-- three, one by one
three : (f : List ℕ) → length f ≡ 3 → get_or f 0 0 ∷ get_or f 1 0 ∷ get_or f 2 0 ∷ [] ≡ f
three [] e = absurd (omega arith)
three (x ∷ []) e = absurd (omega arith)
three (x ∷ y ∷ []) e = absurd (omega arith)
three (x ∷ y ∷ z ∷ []) e = refl
three (x ∷ y ∷ z ∷ u ∷ f) e = absurd (omega arith)

-- a letter within quotes
pub change_seen :
    (s : List ℕ) (at : ℕ) (x : ℕ) → at + 3 < length s → get_or (upto s at (at + 3)) 0 0 ≡ 34 → get_or (upto s at (at + 3)) 1 0 ≡ x
    → (x ≡ 68) ⊎ ((x ≡ 73) ⊎ (x ≡ 85)) → get_or (upto s at (at + 3)) 2 0 ≡ 34 → Seen (has_form by_characters change_type) s at (at + 3)
unfolding has_form one_of same bytes
change_seen s at x l e y o g =
    let n : at + 3 - at ≡ 3 = omega arith in
    let f : upto s at (at + 3) ≡ 34 ∷ x ∷ 34 ∷ [] = sym (three (upto s at (at + 3)) (upto_length s at (at + 3) (omega arith) ∙ n)) ∙ rw (e, y, g) in
    record { forward = omega arith; inside = l; holds = rw f (letter o) }
  where
    letter : (x ≡ 68) ⊎ ((x ≡ 73) ⊎ (x ≡ 85)) → has_form by_characters change_type (34 ∷ x ∷ 34 ∷ []) ≡ true
    letter (inl e) = rw e
    letter (inr (inl e)) = rw e
    letter (inr (inr e)) = rw e

-- ---- numbers

-- 1 to w digits
pub number_seen :
    (s : List ℕ) (at r w : ℕ) → at ≤ r → r < length s → T (all is_digit (upto s at r)) → (r ≡ at → ⊥) → r - at ≤ w
    → Seen (has_form by_characters (number w)) s at r
unfolding has_form is_number
number_seen s at r w h l d n k =
    let e = upto_length s at r (omega arith) in
    record { forward = h; inside = l; holds = rw (e, le-leb 1 (r - at) (omega arith), le-leb (r - at) w k) (T_true (all is_digit (upto s at r)) d) }

-- that are worth 1 or more
pub least_past :
    (s : List ℕ) (at r w : ℕ) (b : Bool) (o : Option ℕ) → Seen (has_form by_characters (number w)) s at r → b ≡ leb 1 (value (upto s at r)) → o ≡ then_some b r
    → Past (has_form by_characters (at_least1 w)) s at o
unfolding has_form
least_past s at r w b o p e q =
    past_if (has_form by_characters (at_least1 w)) s at r b o q
    (λ t. record { forward = p.forward; inside = p.inside; holds = let h = p.holds in rw h (sym e ∙ t) })

-- ---- decimals

-- digits stand before the first point
point_before : (p q : List ℕ) → T (all is_digit p) → up_to 46 (p ++ (46 ∷ q)) ≡ p
unfolding up_to
point_before [] q h = refl
point_before (x ∷ p) q h =
    let d = digit_low x (and_l (is_digit x) (all is_digit p) h) in
    rw (ne_eqb x 46 (λ e. omega arith), point_before p q (and_r (is_digit x) (all is_digit p) h))

-- and not after it
point_after : (p q : List ℕ) → T (all is_digit p) → past 46 (p ++ (46 ∷ q)) ≡ q
unfolding past
point_after [] q h = refl
point_after (x ∷ p) q h =
    let d = digit_low x (and_l (is_digit x) (all is_digit p) h) in
    rw (ne_eqb x 46 (λ e. omega arith), point_after p q (and_r (is_digit x) (all is_digit p) h))

-- the digits of a number
number_digits : (w : ℕ) (f : List ℕ) → has_form by_characters (number w) f ≡ true → T (all is_digit f)
unfolding has_form is_number
number_digits w f h = and_r (leb (length f) w) (all is_digit f) (and_r (leb 1 (length f)) (leb (length f) w && all is_digit f) (rw h tt))

-- a number, a point and d digits, after a minus or none
decimal_is :
    (w d : ℕ) (f x y : List ℕ) → unsigned f ≡ x ++ (46 ∷ y) → has_form by_characters (number w) x ≡ true → is_digits d y ≡ true
    → has_form by_characters (decimal w d) f ≡ true
unfolding has_form is_decimal
decimal_is w d f x y u n k = let g = number_digits w x n in rw (u, point_before x y g, point_after x y g, n) k

-- a minus in front is left out
unsigned_is :
    (s : List ℕ) (at r m : ℕ) → at < length s → m ≡ from_bool (eqb (get_or s at 0) 45) → at + m < r
    → unsigned (upto s at r) ≡ upto s (at + m) r
unfolding unsigned
unsigned_is s at r m h e l = rw (upto_first s at r (omega arith) h) (go (eqb (get_or s at 0) 45) e)
  where
    go : (b : Bool) → m ≡ from_bool b → pick b (upto s (at + 1) r) (get_or s at 0 ∷ upto s (at + 1) r) ≡ upto s (at + m) r
    go true z = rw z
    go false z = let y : at + 0 ≡ at = omega arith in rw (z, y) (sym (upto_first s at r (omega arith) h))

-- it is one byte
bit_low : (b : Bool) (m : ℕ) → m ≡ from_bool b → m ≤ 1
bit_low true m e = omega arith
bit_low false m e = omega arith

-- digits, a point and d digits after an optional minus
pub decimal_past :
    (s : List ℕ) (at m p w d : ℕ) (b : Bool) (o : Option ℕ) → at + 40 ≤ length s → d ≤ 15 → m ≡ from_bool (eqb (get_or s at 0) 45)
    → Seen (has_form by_characters (number w)) s (at + m) p → p ≤ at + m + 16 → get_or s p 0 ≡ 46
    → b ≡ is_digits d (upto s (p + 1) (p + 1 + d)) → o ≡ then_some b (p + 1 + d) → Past (has_form by_characters (decimal w d)) s at o
decimal_past s at m p w d b o h n e g l c q y =
    let v = g.forward in
    let i : m ≤ 1 = bit_low (eqb (get_or s at 0) 45) m e in
    let k : p + 1 + d < length s = omega arith in
    let join : upto s (at + m) (p + 1 + d) ≡ upto s (at + m) p ++ (46 ∷ upto s (p + 1) (p + 1 + d)) =
    upto_then s (at + m) p (p + 1 + d) v (omega arith) ∙ rw (upto_first s p (p + 1 + d) (omega arith) g.inside, c) in
    past_if (has_form by_characters (decimal w d)) s at (p + 1 + d) b o y (λ t. record {
      forward = omega arith;
      inside = k;
      holds =
          decimal_is w d (upto s at (p + 1 + d)) (upto s (at + m) p) (upto s (p + 1) (p + 1 + d)) (unsigned_is s at (p + 1 + d) m (omega arith) e (omega arith) ∙ join) g.holds (sym q ∙ t);
    })

-- ---- texts

-- two quotes, where nothing need be there
pub text_empty :
    (s : List ℕ) (at w : ℕ) (filled : Bool) (o : Option ℕ) → at + 2 < length s → get_or s at 0 ≡ 34 → get_or s (at + 1) 0 ≡ 34
    → o ≡ then_some (not filled) (at + 1 + 1) → Past (sound_as by_characters (text w) filled) s at o
unfolding sound_as is_empty is_textual same
text_empty s at w filled o h e q y =
    past_if (sound_as by_characters (text w) filled) s at (at + 1 + 1) (not filled) o y (λ f. record {
      forward = omega arith;
      inside = omega arith;
      holds = rw (upto_first s at (at + 1 + 1) (omega arith) (omega arith), e, upto_one s (at + 1) (omega arith), q) f;
    })

-- a text that does not begin with two quotes is sound
pub text_other :
    (s : List ℕ) (at w : ℕ) (filled : Bool) (o : Option ℕ) → (get_or s (at + 1) 0 ≡ 34 → ⊥) → Past (has_form by_characters (text w)) s at o
    → Past (sound_as by_characters (text w) filled) s at o
unfolding sound_as is_empty is_textual
text_other s at w filled None n p = tt
text_other s at w filled (Some r) n g = record { forward = g.forward; inside = g.inside; holds = go (same (upto s at r) (34 ∷ 34 ∷ [])) refl }
  where
    second : upto s at r ≡ 34 ∷ 34 ∷ [] → get_or s (at + 1) 0 ≡ 34
    second e =
        let k : 2 ≡ r - at = ap length (sym e) ∙ upto_length s at r (let i = g.inside in omega arith) in
        sym (get_or-take (r - at) (drop at s) 1 0 (omega arith) ∙ get_or-drop at s 1 0) ∙ ap (λ f. get_or f 1 0) e

    go : (b : Bool) → same (upto s at r) (34 ∷ 34 ∷ []) ≡ b → pick b (not filled) (has_form by_characters (text w) (upto s at r)) ≡ true
    go true e = absurd (n (second (same_eq (upto s at r) (34 ∷ 34 ∷ []) (rw e tt))))
    go false e = g.holds

-- at most w bytes of ASCII within quotes
pub text_ascii :
    (s : List ℕ) (at last w : ℕ) (o : Option ℕ) → at + 1 ≤ last → last + 1 < length s → get_or s at 0 ≡ 34 → get_or s last 0 ≡ 34
    → T (all is_ascii_text (upto s (at + 1) last)) → o ≡ then_some (leb (last - (at + 1)) w) (last + 1) → Past (has_form by_characters (text w)) s at o
unfolding has_form
text_ascii s at last w o h l e q a y =
    let n = upto_length s (at + 1) last (omega arith) in
    let f : upto s at (last + 1) ≡ quoted (upto s (at + 1) last) =
    upto_first s at (last + 1) (omega arith) (omega arith) ∙ rw (e, upto_then s (at + 1) last (last + 1) h (omega arith), upto_one s last (omega arith), q) in
    past_if (has_form by_characters (text w)) s at (last + 1) (leb (last - (at + 1)) w) o y
    (λ k. record { forward = omega arith; inside = l; holds = rw f (few (upto s (at + 1) last) a (rw (← n) at k)) })
  where
    few : (t : List ℕ) → T (all is_ascii_text t) → leb (length t) w ≡ true → has_form by_characters (text w) (quoted t) ≡ true
    few t a k =
        T_true (is_text by_characters w (quoted t))
        (text_in_lem by_characters w t (rw (ascii_width w t (T_true (all is_ascii_text t) a), k) tt))

-- ---- a field by its row

-- no bytes are sound where a row allows them
pub none_sound :
    (row : ℕ) (m : Form) (b t : Bool) → b ≡ filled_decoded row → b ≡ false → m ≡ form_decoded row → t ≡ is_textual m → not t ≡ true
    → sound_by row [] ≡ true
unfolding sound_as is_empty same
none_sound row m b t p q r u v = rw (← r, ← p, q, sym u ∙ not-true t v)

-- an empty field has no form but a text's
form_filled : (m : Form) → T (not (is_free_text m)) → has_form by_characters m (empty_of m) ≡ false
unfolding is_free_text has_form is_textual is_number is_decimal unsigned up_to is_date is_time is_digits one_of same bytes is_key
form_filled (number w) n = refl
form_filled (at_least1 w) n = refl
form_filled (decimal w d) n = refl
form_filled date n = refl
form_filled time n = refl
form_filled (text w) n = absurd n
form_filled change_type n = refl
form_filled xref_type n = refl
form_filled file_type n = refl
form_filled (key_text letter) n = and-false (is_text by_characters 14 (34 ∷ 34 ∷ []))

-- so a field of such a form is sound, whether it must be filled or not
form_sound : (m : Form) (filled : Bool) (f : List ℕ) → T (not (is_free_text m)) → has_form by_characters m f ≡ true → sound_as by_characters m filled f ≡ true
unfolding sound_as is_empty
form_sound m filled f n h = go (same f (empty_of m)) refl
  where
    go : (b : Bool) → same f (empty_of m) ≡ b → pick b (not filled) (has_form by_characters m f) ≡ true
    go true e =
        let z : f ≡ empty_of m = same_eq f (empty_of m) (rw e tt) in
        let y : ◌≡◌ {A = Bool} false true = sym (form_filled m n) ∙ (rw z at h) in
        cc
    go false e = h

-- the leaf of the row's form saw it
pub filled_as :
    (m n : Form) (row : ℕ) (s : List ℕ) (at : ℕ) (o : Option ℕ) → n ≡ form_decoded row → n ≡ m → T (not (is_free_text m)) → Past (has_form by_characters m) s at o
    → Past (sound_by row) s at o
filled_as m n row s at o e q t p =
    past_as (has_form by_characters m) (sound_by row) s at o (λ f h. rw (← e, q) (form_sound m (filled_decoded row) f t h)) p

-- the leaf of texts did
pub text_as :
    (w : ℕ) (n : Form) (b : Bool) (row : ℕ) (s : List ℕ) (at : ℕ) (o : Option ℕ) → n ≡ form_decoded row → n ≡ text w → b ≡ filled_decoded row
    → Past (sound_as by_characters (text w) b) s at o → Past (sound_by row) s at o
text_as w n b row s at o e q f p = past_as (sound_as by_characters (text w) b) (sound_by row) s at o (λ _ h. rw (← e, q, ← f) h) p

-- the decimals that a form has
decimals : Form → ℕ
decimals (number w) = 0
decimals (at_least1 w) = 0
decimals (decimal w d) = d
decimals date = 0
decimals time = 0
decimals (text w) = 0
decimals change_type = 0
decimals xref_type = 0
decimals file_type = 0
decimals (key_text letter) = 0

either_few : (b : Bool) (m n : Form) → decimals m ≤ 15 → decimals n ≤ 15 → decimals (pick b m n) ≤ 15
either_few true m n h k = h
either_few false m n h k = k

-- a row says at most 15 decimals
row_few : (row : ℕ) → decimals (form_decoded row) ≤ 15
unfolding form_decoded decimals
row_few row =
    either_few (eqb (row % 16) 0) _ _ (omega arith)
    (either_few (eqb (row % 16) 1) _ _ (omega arith)
    (either_few (eqb (row % 16) 2) _ _ (omega arith)
    (either_few (eqb (row % 16) 3) _ _ (omega arith)
    (either_few (eqb (row % 16) 4) _ _ (omega arith)
    (either_few (eqb (row % 16) 5) _ _ (omega arith)
    (either_few (eqb (row % 16) 6) _ _ (omega arith)
    (either_few (eqb (row % 16) 7) _ _ (omega arith)
    (either_few (eqb (row % 16) 8) _ _ (omega arith) (omega arith)))))))))

pub decimals_few : (row : ℕ) (form : Code) (w d : ℕ) → meant form ≡ form_decoded row → form ≡ Decimal w d → d ≤ 15
unfolding decimals
decimals_few row form w d m e = let h = row_few row in rw (← m, e) at h
