-- The fields of a sound record are sound; so a number of 16 digits at most, and a key's text, stand in the order of their numbers.
use Rattle.std.specs.Prelude.{◌≡◌, refl, Bool, not, ◌&&◌, ◌||◌, List, [], ◌∷◌, ◌++◌, ℕ, suc, ◌+◌, ◌-◌, ◌≤◌, eqb, leb, drop}
use Rattle.std.proofs.Common.{sym, ap, ◌∙◌, arith, leb→le, eqb→eq, length-append, take_all, take-add, drop-drop}
use Rattle.std.proofs.Math.Bool.{true, false}
use Rattle.std.proofs.Math.Option.{Option, none}
use Prim.Native.String.{String}
use Rattle.std.proofs.Math.Dec.{T}
use lib.Text.{eqt}
use Rattle.std.proofs.Math.ListN.{length}
use Rattle.base.specs.Lists.{pick, all, same, part, bytes}
use Rattle.base.specs.Tests.{and_l, and_r, ok_ask}
use Rattle.base.specs.ListLaws.{same_eq, all_append}
use Rattle.theory.specs.Tri.{eq}
use Rattle.theory.specs.Lex.{cmp_n, and_then, lex}
use Rattle.theory.specs.LexLaws.{is_cmp_n}
use Rattle.theory.specs.Decimal.{value}
use Rattle.meaning.specs.Lines.{fields_of, odd_quotes, has_fields, plain}
use Rattle.meaning.specs.Forms.{Form, number, at_least1, decimal, date, time, text, change_type, xref_type, file_type, key_text, is_digit, is_number, is_digits, inside, is_text, one_of, is_key, has_form, is_textual, is_empty, sound_as, value_of}
use Rattle.meaning.specs.Kinds.{Kind}
use Rattle.meaning.specs.Format.{Field, named, form_named}
use Rattle.meaning.specs.Table.{scottish}
use Rattle.meaning.specs.Sound.{sound_field, forms, field_fault}
use Rattle.meaning.specs.Records.{Rec, own_fields, value_named, values_named}
use Rattle.meaning.specs.Answers.{Fault, of_line}
use Rattle.laws.specs.Regular.{holds}
use Rattle.laws.specs.Body.{content_fault, fine, sound_none}
use Rattle.meaning.specs.Codes.{field_count_wrong}
use Rattle.laws.specs.SoundLine.{field_sound}
use Rattle.layout.specs.Rows.{padded}
use Rattle.keys.specs.Numbers.{digits_in, number_of, number_named, numbers_named}
use Rattle.keys.specs.DigitLaws.{lex_append, lex_padded, lex_digits}

-- ---- the fields of a sound record

-- the field of that name must be filled
unfoldable pub filled_named : String → List Field → Bool
filled_named s [] = false
filled_named s (d ∷ ds) = pick (eqt s d.name) d.filled (filled_named s ds)

-- a field is sound where all are
named_sound : (n : ℕ) (s : String) (ds : List Field) (fs : List (List ℕ)) (x : Option Fault) → forms scottish n ds fs x ≡ none → length fs ≡ length ds
    → T (sound_as scottish.text_rule (form_named s ds) (filled_named s ds) (named s ds fs))
unfolding forms form_named filled_named named sound_field
named_sound n s [] fs x e h = unfold sound_as is_empty is_textual same in tt
named_sound n s (d ∷ ds) [] x e h = absurd (omega arith)
named_sound n s (d ∷ ds) (f ∷ fs) x e h =
    let a = field_sound scottish n d f (forms scottish (suc n) ds fs x) e in
    go (eqt s d.name) a.0 (named_sound (suc n) s ds fs x a.1 (omega arith))
  where
    go : (b : Bool) → T (sound_as scottish.text_rule d.form d.filled f) → T (sound_as scottish.text_rule (form_named s ds) (filled_named s ds) (named s ds fs))
        → T (sound_as scottish.text_rule (pick b d.form (form_named s ds)) (pick b d.filled (filled_named s ds)) (pick b f (named s ds fs)))
    go true p q = p
    go false p q = q

-- the form, the status and the bytes of a record's field of that name
abbrev form_in : Rec → String → Form
form_in r s = form_named s (own_fields scottish r.kind)

abbrev filled_in : Rec → String → Bool
filled_in r s = filled_named s (own_fields scottish r.kind)

abbrev field_in : Rec → String → List ℕ
field_in r s = named s (own_fields scottish r.kind) (fields_of r.content)

-- each field of a sound record is sound
pub fine_field : (r : Rec) (s : String) → T (fine scottish r) → T (sound_as scottish.text_rule (form_named s (own_fields scottish r.kind)) (filled_named s (own_fields scottish r.kind)) (named s (own_fields scottish r.kind) (fields_of r.content)))
unfolding fine content_fault has_fields field_fault
fine_field r s f =
    let c = r.content in
    let ds = own_fields scottish r.kind in
    let q : content_fault scottish r.kind c ≡ none = sound_none (content_fault scottish r.kind c) (and_r (all plain c) _ (and_r (holds scottish r.kind) _ f)) in
    let a = ok_ask (not (odd_quotes c) && eqb (length (fields_of c)) (length ds)) (of_line field_count_wrong) (field_fault scottish 4 ds (fields_of c) none) q in
    named_sound 4 s ds (fields_of c) _ a.1 (eqb→eq (length (fields_of c)) (length ds) (and_r (not (odd_quotes c)) (eqb (length (fields_of c)) (length ds)) a.0))

-- ---- numbers

-- a number of 16 digits at most
unfoldable pub narrow : Form → Bool
narrow (number w) = leb w 16
narrow (at_least1 w) = leb w 16
narrow (decimal w d) = false
narrow date = false
narrow time = false
narrow (text w) = false
narrow change_type = false
narrow xref_type = true
narrow file_type = false
narrow (key_text letter) = false

number_short : (w : ℕ) (f : List ℕ) → T (leb w 16) → T (is_number w f) → length f ≤ 16
unfolding is_number
number_short w f n t =
    omega (arith, leb→le w 16 n, leb→le (length f) w (and_l (leb (length f) w) (all is_digit f) (and_r (leb 1 (length f)) (leb (length f) w && all is_digit f) t)))

-- a field that has the form of one has no more bytes
form_short : (m : Form) (f : List ℕ) → T (narrow m) → T (has_form scottish.text_rule m f) → length f ≤ 16
unfolding narrow has_form
form_short (number w) f n t = number_short w f n t
form_short (at_least1 w) f n t = number_short w f n (and_l (is_number w f) (leb 1 (value f)) t)
form_short (decimal w d) f n t = absurd n
form_short date f n t = absurd n
form_short time f n t = absurd n
form_short (text w) f n t = absurd n
form_short change_type f n t = absurd n
form_short xref_type f n t = one (same f (bytes "1")) (same f (bytes "2")) refl refl (unfold one_of in t)
  where
    one : (a b : Bool) → same f (bytes "1") ≡ a → same f (bytes "2") ≡ b → T (a || (b || false)) → length f ≤ 16
    one true b p q t = rw (same_eq f (bytes "1") (rw p tt)) (unfold bytes in (omega arith))
    one false true p q t = rw (same_eq f (bytes "2") (rw q tt)) (unfold bytes in (omega arith))
    one false false p q t = absurd t
form_short file_type f n t = absurd n
form_short (key_text letter) f n t = absurd n

-- a number is no text
narrow_plain : (m : Form) → T (narrow m) → is_textual m ≡ false
unfolding narrow is_textual
narrow_plain (number w) n = refl
narrow_plain (at_least1 w) n = refl
narrow_plain (decimal w d) n = absurd n
narrow_plain date n = absurd n
narrow_plain time n = absurd n
narrow_plain (text w) n = absurd n
narrow_plain change_type n = absurd n
narrow_plain xref_type n = refl
narrow_plain file_type n = absurd n
narrow_plain (key_text letter) n = absurd n

-- nor has one that is sound, if only because it is empty
sound_short : (m : Form) (b : Bool) (f : List ℕ) → T (narrow m) → T (sound_as scottish.text_rule m b f) → length f ≤ 16
unfolding sound_as is_empty
sound_short m b f n t = go (same f (pick (is_textual m) (34 ∷ 34 ∷ []) [])) refl t
  where
    go : (e : Bool) → same f (pick (is_textual m) (34 ∷ 34 ∷ []) []) ≡ e → T (pick e (not b) (has_form scottish.text_rule m f)) → length f ≤ 16
    go true p t = let none_there : same f [] ≡ true = rw (narrow_plain m n) at p in rw (same_eq f [] (rw none_there tt)) (omega arith)
    go false p t = form_short m f n t

-- so its value is its number
narrow_value : (m : Form) (b : Bool) (f : List ℕ) → T (narrow m) → T (sound_as scottish.text_rule m b f) → value_of m f ≡ number_of m f ∷ []
unfolding value_of number_of
narrow_value m b f n t = rw (narrow_plain m n, take_all 16 f (sound_short m b f n t))

-- these fields of a kind are numbers
unfoldable pub numbers_in : Kind → List String → Bool
numbers_in k [] = true
numbers_in k (s ∷ ss) = narrow (form_named s (own_fields scottish k)) && numbers_in k ss

-- fields that are numbers have their numbers for values
pub numbers_values : (r : Rec) → T (fine scottish r) → (ss : List String) → T (numbers_in r.kind ss) → values_named scottish r ss ≡ numbers_named r ss
unfolding values_named numbers_named value_named number_named numbers_in
numbers_values r f [] t = refl
numbers_values r f (s ∷ ss) t =
    rw (narrow_value (form_in r s) (filled_in r s) (field_in r s) (and_l (narrow (form_in r s)) (numbers_in r.kind ss) t) (fine_field r s f))
    (ap (λ l. number_of (form_in r s) (field_in r s) ∷ l) (numbers_values r f ss (and_r (narrow (form_in r s)) (numbers_in r.kind ss) t)))

-- there are as many numbers as names
pub length_numbers : (r : Rec) (ss : List String) → length (numbers_named r ss) ≡ length ss
unfolding numbers_named
length_numbers r [] = refl
length_numbers r (s ∷ ss) = ap suc (length_numbers r ss)

-- the numbers of these fields stand in the order of their values
abbrev pub Ordered : Rec → List String → Rec → List String → Type 0
Ordered r ss x us = lex (padded 3 (numbers_named r ss)) (padded 3 (numbers_named x us)) ≡ lex (values_named scottish r ss) (values_named scottish x us)

-- as many numbers on both sides, three at most, do
pub numbers_agree : (r x : Rec) → T (fine scottish r) → T (fine scottish x) → (ss us : List String) → T (numbers_in r.kind ss) → T (numbers_in x.kind us) → length ss ≡ length us → length ss ≤ 3
    → Ordered r ss x us
numbers_agree r x f g ss us t u e h =
    rw (numbers_values r f ss t, numbers_values x g us u)
    (lex_padded 3 (numbers_named r ss) (numbers_named x us) (length_numbers r ss ∙ e ∙ sym (length_numbers x us)) (rw (length_numbers r ss) h))

-- ---- a key's text

-- a key's text
unfoldable pub lettered : Form → Bool
lettered (number w) = false
lettered (at_least1 w) = false
lettered (decimal w d) = false
lettered date = false
lettered time = false
lettered (text w) = false
lettered change_type = false
lettered xref_type = false
lettered file_type = false
lettered (key_text letter) = true

-- two parts, one after another
part_split : (f : List ℕ) (a b c : ℕ) → a ≤ b → b ≤ c → part f a c ≡ part f a b ++ part f b c
unfolding part
part_split f a b c h k =
    let z : c - a ≡ (b - a) + (c - b) = omega arith in
    let y : a + (b - a) ≡ b = omega arith in
    rw z (take-add (b - a) (c - b) (drop a f) ∙ rw (drop-drop (b - a) a f, y))

-- what a key's text is made of
record Keyish (letter : ℕ) (f : List ℕ) : Type 0 where
  between : inside f ≡ part f 1 5 ++ (letter ∷ part f 6 15)
  four : length (part f 1 5) ≡ 4
  nine : length (part f 6 15) ≡ 9
  ones : T (all is_digit (part f 1 5))
  others : T (all is_digit (part f 6 15))

key_made : (letter : ℕ) (f : List ℕ) → T (is_key scottish.text_rule letter f) → Keyish letter f
unfolding is_key is_digits inside
key_made letter f t =
    let a = and_r (is_text scottish.text_rule 14 f) _ t in
    let size : length f ≡ 16 = eqb→eq (length f) 16 (and_l (eqb (length f) 16) _ a) in
    let b = and_r (eqb (length f) 16) _ a in
    let p = and_l (is_digits 4 (part f 1 5)) _ b in
    let c = and_r (is_digits 4 (part f 1 5)) _ b in
    let m : part f 5 6 ≡ letter ∷ [] = same_eq (part f 5 6) (letter ∷ []) (and_l (same (part f 5 6) (letter ∷ [])) _ c) in
    let q = and_r (same (part f 5 6) (letter ∷ [])) _ c in
    let last : length f - 1 ≡ 15 = omega arith in
    record {
      between = rw last (part_split f 1 5 15 (omega arith) (omega arith) ∙ ap (λ l. part f 1 5 ++ l) (part_split f 5 6 15 (omega arith) (omega arith) ∙ rw m));
      four = eqb→eq (length (part f 1 5)) 4 (and_l (eqb (length (part f 1 5)) 4) _ p);
      nine = eqb→eq (length (part f 6 15)) 9 (and_l (eqb (length (part f 6 15)) 9) _ q);
      ones = and_r (eqb (length (part f 1 5)) 4) _ p;
      others = and_r (eqb (length (part f 6 15)) 9) _ q;
    }

-- two texts of one letter stand in the order of their digits
key_digits : (letter : ℕ) (f g : List ℕ) → Keyish letter f → Keyish letter g → cmp_n (value (digits_in f)) (value (digits_in g)) ≡ lex (inside f) (inside g)
unfolding digits_in lex and_then
key_digits letter f g p q =
    let same-front : length (part f 1 5) ≡ length (part g 1 5) = p.four ∙ sym q.four in
    let same_size : length (part f 1 5 ++ part f 6 15) ≡ length (part g 1 5 ++ part g 6 15) = omega (arith, length-append (part f 1 5) (part f 6 15), length-append (part g 1 5) (part g 6 15), p.four, p.nine, q.four, q.nine) in
    sym (lex_digits (part f 1 5 ++ part f 6 15) (part g 1 5 ++ part g 6 15) (all_append is_digit (part f 1 5) (part f 6 15) p.ones p.others) (all_append is_digit (part g 1 5) (part g 6 15) q.ones q.others) same_size)
    ∙ lex_append (part f 1 5) (part g 1 5) (part f 6 15) (part g 6 15) same-front
    ∙ sym (rw (p.between, q.between) (lex_append (part f 1 5) (part g 1 5) (letter ∷ part f 6 15) (letter ∷ part g 6 15) same-front ∙ rw (is_cmp_n letter letter eq refl)))

-- a text that must be filled has its form
text_form : (m : Form) (f : List ℕ) → T (sound_as scottish.text_rule m true f) → T (has_form scottish.text_rule m f)
unfolding sound_as
text_form m f t = go (is_empty m f) t
  where
    go : (e : Bool) → T (pick e false (has_form scottish.text_rule m f)) → T (has_form scottish.text_rule m f)
    go true t = absurd t
    go false t = t

-- so its number stands for its value
pub text_agree : (m : Form) (f g : List ℕ) → T (lettered m) → T (sound_as scottish.text_rule m true f) → T (sound_as scottish.text_rule m true g) → cmp_n (number_of m f) (number_of m g) ≡ lex (value_of m f) (value_of m g)
unfolding lettered
text_agree (number w) f g n t u = absurd n
text_agree (at_least1 w) f g n t u = absurd n
text_agree (decimal w d) f g n t u = absurd n
text_agree date f g n t u = absurd n
text_agree time f g n t u = absurd n
text_agree (text w) f g n t u = absurd n
text_agree change_type f g n t u = absurd n
text_agree xref_type f g n t u = absurd n
text_agree file_type f g n t u = absurd n
text_agree (key_text letter) f g n t u =
    unfold number_of value_of is_textual in
    (key_digits letter f g (key_made letter f (unfold has_form in (text_form (key_text letter) f t))) (key_made letter g (unfold has_form in (text_form (key_text letter) g u))))
