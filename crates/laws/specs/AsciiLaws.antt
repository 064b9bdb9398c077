-- Paper 02, request 02: what the rules by bytes and by characters say alike: of ASCII all, and of codes, keys and CHANGE_TYPE all, whatever the bytes.
use Rattle.std.specs.Prelude.{◌≡◌, refl, Bool, true, false, not, ◌&&◌, List, [], ◌∷◌, ◌++◌, map, ℕ, zero, suc, ◌-◌, ◌≤◌, ◌<◌, T, leb, eqb, length, take, drop, replicate}
use Rattle.std.proofs.Common.{sym, ap, ◌∙◌, subst, arith, le→leb, eqb→eq}
use Rattle.std.proofs.Math.Path.{fun_ext}
use Rattle.std.proofs.Math.Bool.{and_comm}
use Rattle.std.proofs.Math.Dec.{nleb→lt, not_T}
use Rattle.base.specs.Lists.{all, part, bytes}
use Rattle.base.specs.Tests.{and_in, and_l, and_r, same_test, T_false}
use Rattle.base.specs.ListLaws.{all_append, append_all, all_drop, all_take}
use Rattle.meaning.specs.Characters.{at_most}
use Rattle.meaning.specs.Forms.{Form, number, at_least1, decimal, date, time, text, change_type, xref_type, file_type, key_text, is_text_byte, quoted, inside, TextRule, by_characters, is_text, has_form, is_textual, empty_of, is_empty, sound_as}
use Rattle.meaning.specs.Place.{goes_on, begins, reach, place, samples, place_as}
use Rattle.meaning.specs.Kinds.{Kind}
use Rattle.meaning.specs.Format.{Format, Field}
use Rattle.meaning.specs.Table.{fields, scottish}
use Rattle.meaning.specs.Before.{by_bytes, before}
use Rattle.meaning.specs.Sound.{sound_field, place_in}
use Rattle.meaning.specs.Computes.{computed}
use Rattle.laws.specs.Kinds.{every}
use Rattle.laws.specs.PlaceLaws.{begins_now, begins_rest}
use Rattle.laws.specs.EnoughNumbers.{noughts}
use Rattle.laws.specs.ContentLaws.{Ruled, bytes_front, bytes_ruled}
use Rattle.laws.specs.Ascii.{is_ascii, ascii, ascii_most, ascii_past}
use Rattle.laws.specs.CharacterLaws.{key_letter_lem, characters_ruled}
use Rattle.laws.specs.EnoughTexts.{filled_text, text_at}
use Rattle.laws.specs.EnoughKeys.{key_letter, key_carry}
use Rattle.laws.specs.Enough.{full, sound_at, enough}
use Rattle.laws.specs.ScottishPlaces.{row_at, all_at}

-- ---- the two rules agree on ASCII

rules_agree : (w : ℕ) (t : List ℕ) → T (ascii t) → by_bytes w t ≡ by_characters w t
unfolding by_bytes by_characters
rules_agree w t a = rw (ascii_most w t a) (and_comm (leb (length t) w) (all is_text_byte t))

-- ---- forms that are no text T w: of any bytes

-- a text T w, whose width the rule counts
unfoldable pub is_free_text : Form → Bool
is_free_text (number w) = false
is_free_text (at_least1 w) = false
is_free_text (decimal w d) = false
is_free_text date = false
is_free_text time = false
is_free_text (text w) = true
is_free_text change_type = false
is_free_text xref_type = false
is_free_text file_type = false
is_free_text (key_text letter) = false

-- the form names no byte but ASCII: a key's letter is ASCII
unfoldable pub names_ascii : Form → Bool
names_ascii (number w) = true
names_ascii (at_least1 w) = true
names_ascii (decimal w d) = true
names_ascii date = true
names_ascii time = true
names_ascii (text w) = true
names_ascii change_type = true
names_ascii xref_type = true
names_ascii file_type = true
names_ascii (key_text letter) = is_ascii letter

-- an ASCII letter may stand in a key under both rules or none
letter_same : (letter : ℕ) → T (is_ascii letter) → key_letter by_bytes letter ≡ key_letter by_characters letter
unfolding key_letter is_ascii
letter_same letter l = rules_agree 14 _ (and_in (leb letter 127) true l tt)

-- no less is enough: any other letter may stand there by bytes, and may not by characters
pub letter_only : (letter : ℕ) → T (not (is_ascii letter)) → T (key_letter by_bytes letter) × (T (key_letter by_characters letter) → ⊥)
unfolding key_letter by_bytes by_characters is_text_byte is_ascii
letter_only letter n = (and_in (is_text_byte letter) true byte tt, λ t. subst T (T_false (is_ascii letter) n) (between t))
  where
    front : List ℕ
    front = replicate 4 48

    back : List ℕ
    back = replicate 9 48

    key : List ℕ
    key = front ++ (letter ∷ back)

    between : T (all is_text_byte key && at_most 14 [] key) → T (is_ascii letter)
    between t = key_letter_lem letter front back (noughts 4) (noughts 9) (and_r (all is_text_byte key) (at_most 14 [] key) t)

    high : 127 < letter
    high = nleb→lt letter 127 n

    other : (x : ℕ) → x ≤ 127 → T (not (eqb letter x))
    other x h = not_T (eqb letter x) (λ e. omega (arith, eqb→eq letter x e, high))

    byte : T (is_text_byte letter)
    byte =
        and_in (leb 32 letter) _ (le→leb 32 letter (omega (arith, high)))
        (and_in (not (eqb letter 34)) (not (eqb letter 127)) (other 34 (omega arith)) (other 127 (omega arith)))

others_form : (m : Form) → T (not (is_free_text m)) → T (names_ascii m) → (f : List ℕ) → has_form by_bytes m f ≡ has_form by_characters m f
unfolding is_free_text names_ascii has_form
others_form (number w) o t f = refl
others_form (at_least1 w) o t f = refl
others_form (decimal w d) o t f = refl
others_form date o t f = refl
others_form time o t f = refl
others_form (text w) o t f = absurd o
others_form change_type o t f = refl
others_form xref_type o t f = refl
others_form file_type o t f = refl
others_form (key_text letter) o t f =
    let e = letter_same letter t in
    same_test _ _ (key_carry by_bytes by_characters bytes_ruled characters_ruled letter (subst T e) f)
    (key_carry by_characters by_bytes characters_ruled bytes_ruled letter (subst T (sym e)) f)

-- both rules find the same fields sound
pub others_sound :
    (m : Form) (filled : Bool) → T (not (is_free_text m)) → T (names_ascii m) → (f : List ℕ) → sound_as by_bytes m filled f ≡ sound_as by_characters m filled f
unfolding sound_as
others_sound m filled o t f = rw (others_form m o t f)

-- and give the same place
pub others_place :
    (m : Form) (filled : Bool) → T (not (is_free_text m)) → T (names_ascii m) → (f : List ℕ) → place_as by_bytes m filled f ≡ place_as by_characters m filled f
unfolding place_as
others_place m filled o t f = ap (λ sound. place sound (empty_of m ∷ samples m) f) (fun_ext (others_sound m filled o t))

-- ---- texts of ASCII

inside_ascii : (f : List ℕ) → T (ascii f) → T (ascii (inside f))
unfolding inside part
inside_ascii f a = all_take is_ascii (length f - 1 - 1) (drop 1 f) (all_drop is_ascii 1 f a)

text_sound : (w : ℕ) (filled : Bool) (f : List ℕ) → T (ascii f) → sound_as by_bytes (text w) filled f ≡ sound_as by_characters (text w) filled f
unfolding sound_as has_form is_text
text_sound w filled f a = rw (rules_agree w (inside f) (inside_ascii f a))

-- ASCII that begins what may stand in a text may stand there too
abbrev Front : TextRule → Type 0
Front rule = (w : ℕ) (q u : List ℕ) → T (ascii q) → T (rule w (q ++ u)) → T (rule w q)

characters_front : Front by_characters
unfolding by_characters
characters_front w q u a t =
    let b = all is_text_byte (q ++ u) in
    let m = at_most w [] (q ++ u) in
    let v = ascii_past w q u a (and_r b m t) in
    and_in (all is_text_byte q) (at_most w [] q) (append_all is_text_byte q u (and_l b m t)).0 (rw (ascii_most w q a) (le→leb (length q) w (omega (arith, v.1))))

-- so where ASCII begins a text, no character is begun, and the letter a is enough to go on
fewer :
    (rule : TextRule) → Ruled rule → Front rule → (w : ℕ) (filled : Bool) (p : List ℕ) → T (ascii p)
    → begins (sound_as rule (text w) filled) (empty_of (text w) ∷ samples (text w)) p
    ≡ begins (sound_as rule (text w) filled) (empty_of (text w) ∷ map quoted (bytes "a" ∷ [])) p
unfolding full filled_text has_form is_empty is_textual
fewer rule ruled front w filled p a = same_test (begins sound (none ∷ samples (text w)) p) (begins sound (none ∷ one) p) less more
  where
    sound : List ℕ → Bool
    sound = sound_as rule (text w) filled

    none : List ℕ
    none = empty_of (text w)

    one : List (List ℕ)
    one = map quoted (bytes "a" ∷ [])

    goes : (v : List ℕ) → T (rule w (drop 1 p ++ v)) → T (begins (rule w) (bytes "a" ∷ []) (drop 1 p))
    goes v c = begins_now (rule w) (drop 1 p) (bytes "a") [] (front w (drop 1 p) v (all_drop is_ascii 1 p a) c)

    less : T (begins sound (none ∷ samples (text w)) p) → T (begins sound (none ∷ one) p)
    less t =
        let r = begins_rest sound p (none ∷ samples (text w)) t in
        sound_at rule (text w) filled one p (text_at rule ruled w [] p goes) r.0 r.1

    more : T (begins sound (none ∷ one) p) → T (begins sound (none ∷ samples (text w)) p)
    more t =
        let r = begins_rest sound p (none ∷ one) t in
        enough rule ruled (text w) filled p r.0 r.1

-- tests that agree on ASCII agree on what begins, where the samples are ASCII
begins_same :
    (a b : List ℕ → Bool) → ((f : List ℕ) → T (ascii f) → a f ≡ b f)
    → (ss : List (List ℕ)) (p : List ℕ) → T (all ascii ss) → T (ascii p) → begins a ss p ≡ begins b ss p
unfolding begins goes_on
begins_same a b e [] p s t = refl
begins_same a b e (v ∷ ss) p s t = rw (goes v (and_l (ascii v) (all ascii ss) s), begins_same a b e ss p (and_r (ascii v) (all ascii ss) s) t)
  where
    goes : (v : List ℕ) → T (ascii v) → goes_on a p v ≡ goes_on b p v
    goes [] u = e p t
    goes (x ∷ v) u = rw (e (p ++ (x ∷ v)) (all_append is_ascii p (x ∷ v) t u), goes v (and_r (is_ascii x) (ascii v) u))

-- and so on how far ASCII goes on
reach_same :
    (a b : List ℕ → Bool) → ((p : List ℕ) → T (ascii p) → a p ≡ b p) → (f p : List ℕ) → T (ascii f) → T (ascii p) → reach a p f ≡ reach b p f
unfolding reach
reach_same a b e [] p t u = refl
reach_same a b e (x ∷ f) p t u =
    let k = all_append is_ascii p (x ∷ []) u (and_in (is_ascii x) true (and_l (is_ascii x) (ascii f) t) tt) in
    rw (e (p ++ (x ∷ [])) k, reach_same a b e f (p ++ (x ∷ [])) (and_r (is_ascii x) (ascii f) t) k)

text_begins :
    (w : ℕ) (filled : Bool) (p : List ℕ) → T (ascii p)
    → begins (sound_as by_bytes (text w) filled) (empty_of (text w) ∷ samples (text w)) p
    ≡ begins (sound_as by_characters (text w) filled) (empty_of (text w) ∷ samples (text w)) p
unfolding bytes is_textual is_ascii
text_begins w filled p a =
    fewer by_bytes bytes_ruled (λ w q u a. bytes_front w q u) w filled p a
    ∙ begins_same (sound_as by_bytes (text w) filled) (sound_as by_characters (text w) filled) (text_sound w filled) (_ ∷ map quoted (bytes "a" ∷ [])) p tt a
    ∙ sym (fewer by_characters characters_ruled characters_front w filled p a)

text_place : (w : ℕ) (filled : Bool) (f : List ℕ) → T (ascii f) → place_as by_bytes (text w) filled f ≡ place_as by_characters (text w) filled f
unfolding place_as place
text_place w filled f a = rw (text_sound w filled f a, reach_same _ _ (text_begins w filled) f [] a tt)

-- ---- every form, of ASCII

-- what holds of texts and of the others holds of all
text_or_other : (P : Form → Type 0) → ((w : ℕ) → P (text w)) → ((m : Form) → T (not (is_free_text m)) → P m) → (m : Form) → P m
unfolding is_free_text
text_or_other P a b (number w) = b (number w) tt
text_or_other P a b (at_least1 w) = b (at_least1 w) tt
text_or_other P a b (decimal w d) = b (decimal w d) tt
text_or_other P a b date = b date tt
text_or_other P a b time = b time tt
text_or_other P a b (text w) = a w
text_or_other P a b change_type = b change_type tt
text_or_other P a b xref_type = b xref_type tt
text_or_other P a b file_type = b file_type tt
text_or_other P a b (key_text letter) = b (key_text letter) tt

-- both rules find the same fields of ASCII sound
pub ascii_sound : (m : Form) (filled : Bool) → T (names_ascii m) → (f : List ℕ) → T (ascii f) → sound_as by_bytes m filled f ≡ sound_as by_characters m filled f
ascii_sound m filled t f a =
    text_or_other (λ m. T (names_ascii m) → sound_as by_bytes m filled f ≡ sound_as by_characters m filled f)
    (λ w t. text_sound w filled f a) (λ m o t. others_sound m filled o t f) m t

-- and give the same place
pub ascii_place : (m : Form) (filled : Bool) → T (names_ascii m) → (f : List ℕ) → T (ascii f) → place_as by_bytes m filled f ≡ place_as by_characters m filled f
ascii_place m filled t f a =
    text_or_other (λ m. T (names_ascii m) → place_as by_bytes m filled f ≡ place_as by_characters m filled f)
    (λ w t. text_place w filled f a) (λ m o t. others_place m filled o t f) m t

-- ---- the rows of the table

-- two formats say the same of a field, as a row has it
abbrev pub SameField : Format → Format → Field → List ℕ → Type 0
SameField F G d f = (sound_field F d f ≡ sound_field G d f) × (place_in F d f ≡ place_in G d f)

-- every row of the table names no byte but ASCII
row_names_ascii : Field → Bool
row_names_ascii d = names_ascii d.form

ascii_rows : (k : Kind) → T (all row_names_ascii (fields k))
unfolding computed row_names_ascii names_ascii is_ascii
ascii_rows k = every (λ k. all row_names_ascii (fields k)) tt k

ascii_row : (k : Kind) (i : ℕ) → i < length (fields k) → T (names_ascii (row_at k i).form)
unfolding row_names_ascii
ascii_row k i h = all_at row_names_ascii (fields k) i h (ascii_rows k)

-- codes, keys, CHANGE_TYPE, numbers and dates, whatever their bytes, are as they were before
pub scottish_others :
    (k : Kind) (i : ℕ) → i < length (fields k) → T (not (is_free_text (row_at k i).form)) → (f : List ℕ) → SameField before scottish (row_at k i) f
unfolding sound_field place_in
scottish_others k i h o f =
    let d = row_at k i in
    (others_sound d.form d.filled o (ascii_row k i h) f, others_place d.form d.filled o (ascii_row k i h) f)

-- and so is every field of ASCII
pub scottish_ascii : (k : Kind) (i : ℕ) → i < length (fields k) → (f : List ℕ) → T (ascii f) → SameField before scottish (row_at k i) f
unfolding sound_field place_in
scottish_ascii k i h f a =
    let d = row_at k i in
    (ascii_sound d.form d.filled (ascii_row k i h) f a, ascii_place d.form d.filled (ascii_row k i h) f a)
