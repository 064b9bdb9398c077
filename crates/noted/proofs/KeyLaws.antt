-- The laws of a key that is read by noted fields.
use mathlib.Core.Path.{◌≡◌, refl, sym, ap, ◌∙◌}
use mathlib.Core.Bool.{Bool, true, false, not, ◌||◌}
use mathlib.Core.List.{List, [], ◌∷◌}
use Prim.Native.Nat.{ℕ, ◌-◌, ◌≤◌, ◌<◌}
use native.Mathlib.Decide.{dec_lt}
use native.Mathlib.Omega.{arith}
use borrow.Author.Rules.{rules}
use borrow.Author.Tests.{eq-eqb, ne_eqb, lt-ltb, le-ltb}
use lib.Dec.{T, leb}
use lib.ListN.{length, get_or, take, drop}
use Rattle.base.specs.Lists.{pick, all, same, bytes}
use Rattle.base.specs.Tests.{and_l, and_r}
use Rattle.base.specs.ListLaws.{same_eq}
use Rattle.theory.specs.Decimal.{value}
use Rattle.meaning.specs.Lines.{fields_of}
use Rattle.meaning.specs.Forms.{Form, number, at_least1, decimal, date, time, text, change_type, xref_type, file_type, key_text, quoted, inside, is_digit, is_number, is_text, is_key, one_of, is_textual, is_empty, has_form, sound_as}
use Rattle.meaning.specs.Kinds.{Kind}
use Rattle.meaning.specs.Table.{scottish}
use Rattle.meaning.specs.Records.{content_of}
use Rattle.laws.specs.Digits.{digit_low}
use Rattle.layout.specs.declared.records.Layout.{Layout}
use Rattle.layout.specs.Rows.{row_of, laid_out}
use Rattle.pass.specs.Kinds.{PassedAs}
use Rattle.keys.specs.Numbers.{digits_in, number_of, key_numbers}
use Rattle.keys.specs.Places.{number_at}
use Rattle.keys.proofs.PlaceLaws.{number_none, number_there}
use Rattle.keys.proofs.RowLaws.{key_is}
use Rattle.entries.specs.Entries.{rec_of, line_at}
use Rattle.noted.specs.Reads.{number_read, number_placed}
use Rattle.noted.proofs.PassedLaws.{placed_content, passed_record, passed_many, passed_room, passed_sound, told_apart, placed_in, placed_form, key_placed}

-- ---- a field by its first byte

-- no bytes are a number as well
pub read_none : (f : List ℕ) (n : ℕ) → length f ≡ 0 → n ≡ value (take 16 f) → n ≡ number_read f
unfolding number_read
read_none [] n h e = e
read_none (x ∷ f) n h e = absurd (omega arith)

-- a quote begins a text
pub read_text : (f : List ℕ) (n : ℕ) → get_or f 0 0 ≡ 34 → n ≡ value (digits_in f) → n ≡ number_read f
unfolding number_read
read_text f n h e = rw (eq-eqb (get_or f 0 0) 34 h) e

-- any other byte a number
pub read_plain : (f : List ℕ) (n : ℕ) → (get_or f 0 0 ≡ 34 → ⊥) → n ≡ value (take 16 f) → n ≡ number_read f
unfolding number_read
read_plain f n h e = rw (ne_eqb (get_or f 0 0) 34 h) e

pub ruleset reading = (rules, read_none, read_text, read_plain)

-- before the content there is none
pub placed_none : (t : List ℕ) (p : ℕ) → p < 4 → 0 ≡ number_placed t p
unfolding number_placed
placed_none t p h = rw (lt-ltb p 4 h)

-- else it is the field's
pub placed_read : (t f : List ℕ) (p n : ℕ) → 4 ≤ p → f ≡ get_or (fields_of t) (p - 1) [] → n ≡ number_read f → n ≡ number_placed t p
unfolding number_placed
placed_read t f p n h v e = rw (le-ltb p 4 h, ← v) e

pub ruleset placing = (rules, placed_none, placed_read)

-- ---- a sound field's number

-- a number begins with no quote
plain_read : (m : Form) (f : List ℕ) → is_textual m ≡ false → (get_or f 0 0 ≡ 34 → ⊥) → number_read f ≡ number_of m f
unfolding number_read number_of
plain_read m f p n = rw (p, ne_eqb (get_or f 0 0) 34 n)

-- a text does
text_read : (m : Form) (f : List ℕ) → is_textual m ≡ true → get_or f 0 0 ≡ 34 → number_read f ≡ number_of m f
unfolding number_read number_of
text_read m f p n = rw (p, eq-eqb (get_or f 0 0) 34 n)

-- a digit is no quote
digits_begin : (w : ℕ) (f : List ℕ) → T (is_number w f) → get_or f 0 0 ≡ 34 → ⊥
unfolding is_number
digits_begin w [] t h = absurd (omega arith)
digits_begin w (x ∷ f) t h =
    let d = and_r (leb (length (x ∷ f)) w) _ (and_r (leb 1 (length (x ∷ f))) _ t) in
    omega (arith, digit_low x (and_l (is_digit x) (all is_digit f) d))

-- nor is a reference's type
types_begin : (f : List ℕ) → T (has_form scottish.text_rule xref_type f) → get_or f 0 0 ≡ 34 → ⊥
unfolding has_form
types_begin f t h = one (same f (bytes "1")) (same f (bytes "2")) refl refl (unfold one_of in t)
  where
    one : (a b : Bool) → same f (bytes "1") ≡ a → same f (bytes "2") ≡ b → T (a || (b || false)) → ⊥
    one true b p q t = unfold bytes in (omega (arith, sym (ap (λ l. get_or l 0 0) (same_eq f (bytes "1") (rw p tt)))))
    one false true p q t = unfold bytes in (omega (arith, sym (ap (λ l. get_or l 0 0) (same_eq f (bytes "2") (rw q tt)))))
    one false false p q t = absurd t

-- a key's text is quoted
key_begins : (letter : ℕ) (f : List ℕ) → T (is_key scottish.text_rule letter f) → get_or f 0 0 ≡ 34
unfolding is_key is_text
key_begins letter f t = ap (λ l. get_or l 0 0) (same_eq f (quoted (inside f)) (and_l (same f (quoted (inside f))) _ (and_l (is_text scottish.text_rule 14 f) _ t)))

-- so a filled field's number is told by its first byte
filled_read : (m : Form) (f : List ℕ) → T (told_apart m) → T (has_form scottish.text_rule m f) → number_read f ≡ number_of m f
unfolding has_form is_textual
filled_read (number w) f a t = plain_read (number w) f refl (digits_begin w f t)
filled_read (at_least1 w) f a t = plain_read (at_least1 w) f refl (digits_begin w f (and_l (is_number w f) (leb 1 (value f)) t))
filled_read (decimal w d) f a t = absurd a
filled_read date f a t = absurd a
filled_read time f a t = absurd a
filled_read (text w) f a t = absurd a
filled_read change_type f a t = absurd a
filled_read xref_type f a t = plain_read xref_type f refl (types_begin f t)
filled_read file_type f a t = absurd a
filled_read (key_text letter) f a t = text_read (key_text letter) f refl (key_begins letter f t)

-- and so is an empty one's
sound_read : (m : Form) (b : Bool) (f : List ℕ) → T (told_apart m) → T (sound_as scottish.text_rule m b f) → number_read f ≡ number_of m f
unfolding sound_as is_empty
sound_read m b f a t = go (same f (pick (is_textual m) (34 ∷ 34 ∷ []) [])) refl t
  where
    empty : (c : Bool) → is_textual m ≡ c → f ≡ pick c (34 ∷ 34 ∷ []) [] → number_read f ≡ number_of m f
    empty true p e = text_read m f p (ap (λ l. get_or l 0 0) e)
    empty false p e = plain_read m f p (λ h. omega (arith, sym (ap (λ l. get_or l 0 0) e)))

    go : (c : Bool) → same f (pick (is_textual m) (34 ∷ 34 ∷ []) []) ≡ c → T (pick c (not b) (has_form scottish.text_rule m f)) → number_read f ≡ number_of m f
    go true p t = empty (is_textual m) refl (same_eq f (pick (is_textual m) (34 ∷ 34 ∷ []) []) (rw p tt))
    go false p t = filled_read m f a t

-- ---- a line's key

-- the place of a number is one of the line's fields
pub key_in : (k : Kind) (s a : List ℕ) (at e : ℕ) → PassedAs k s a at e → (l : Layout) → l ≡ laid_out k → (j : ℕ) → get_or l.key j 0 ≤ length (fields_of (take (e - at) (drop at s)))
key_in k s a at e p l q j = omega (arith, passed_many k s a at e p, placed_in told_apart k (get_or l.key j 0) (key_placed k l q j))

-- and its end is noted
pub key_room : (k : Kind) (s a : List ℕ) (at e : ℕ) → PassedAs k s a at e → (l : Layout) → l ≡ laid_out k → (j : ℕ) → get_or l.key j 0 ≤ length a
key_room k s a at e p l q j = omega (arith, passed_room k s a at e p, placed_in told_apart k (get_or l.key j 0) (key_placed k l q j))

module _ (k : Kind) (s a : List ℕ) (at e : ℕ) (p : PassedAs k s a at e) (l : Layout) (q : l ≡ laid_out k) where
  -- what is read there is the content's number
  key_number : (j n : ℕ) → n ≡ number_placed (take (e - at) (drop at s)) (get_or l.key j 0) → n ≡ number_at k (content_of (take (e - at) (drop at s))) (get_or l.key j 0)
  unfolding number_placed
  key_number j n h = go (dec_lt (get_or l.key j 0) 4)
    where
      place : ℕ
      place = get_or l.key j 0

      t : List ℕ
      t = take (e - at) (drop at s)

      go : Dec (place < 4) → n ≡ number_at k (content_of t) place
      go (yes i) = h ∙ rw (lt-ltb place 4 i) (number_none k (content_of t) place i)
      go (no i) =
          let o : 4 ≤ place = omega arith in
          let f = get_or (fields_of t) (place - 1) [] in
          let r : n ≡ number_read f = h ∙ rw (le-ltb place 4 o) in
          number_there k (content_of t) place (row_of k (place - 1)).0 f o refl (placed_content t place o) n
          (r ∙ sound_read (row_of k (place - 1)).0 (row_of k (place - 1)).1 f (placed_form told_apart k place (key_placed k l q j) o) (passed_sound k s a at e p (place - 1) (omega (arith, placed_in told_apart k place (key_placed k l q j)))))

  -- three of them and the kind's are its key
  pub key_passed : (first second third : ℕ) → first ≡ number_placed (take (e - at) (drop at s)) (get_or l.key 0 0) → second ≡ number_placed (take (e - at) (drop at s)) (get_or l.key 1 0)
      → third ≡ number_placed (take (e - at) (drop at s)) (get_or l.key 2 0) → l.number ∷ first ∷ second ∷ third ∷ [] ≡ key_numbers (rec_of (line_at s at))
  key_passed first second third f g h =
      key_is k (content_of (take (e - at) (drop at s))) l first second third q (key_number 0 first f) (key_number 1 second g) (key_number 2 third h) ∙ sym (ap key_numbers (passed_record k s a at e p))

pub ruleset keying = (rules, key_in, key_room, key_passed)
