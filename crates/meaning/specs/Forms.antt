-- Paper 01, 'Lines and fields': the forms of a field; what a text's width counts is paper 02's, request 02.
use Rattle.std.specs.Prelude.{Bool, true, false, not, ◌&&◌, ◌||◌, List, [], ◌∷◌, ◌++◌, ℕ, ◌-◌, ◌%◌, eqb, leb, length}
use Rattle.base.specs.Lists.{all, pick, same, part, up_to, past, bytes}
use Rattle.theory.specs.Decimal.{value}
use Rattle.meaning.specs.Characters.{at_most}

-- the forms that the table names
pub data Form : Type 0 where
  number : ℕ → Form  -- N w
  at_least1 : ℕ → Form  -- N w, at least 1: USRN, UPRN, PARENT_UPRN
  decimal : ℕ → ℕ → Form  -- N w.d
  date time : Form
  text : ℕ → Form  -- T w
  change_type xref_type file_type : Form
  key_text : ℕ → Form  -- XREF_KEY, LPI_KEY: four digits, this letter, nine digits

-- a byte from 0 to 9
unfoldable pub is_digit : ℕ → Bool
is_digit x = leb 48 x && leb x 57

-- N w: 1 to w digits, leading zeros allowed and counted
unfoldable pub is_number : ℕ → List ℕ → Bool
is_number w f = leb 1 (length f) && (leb (length f) w && all is_digit f)

-- so many digits
unfoldable pub is_digits : ℕ → List ℕ → Bool
is_digits d f = eqb (length f) d && all is_digit f

-- without a minus in front
unfoldable pub unsigned : List ℕ → List ℕ
unsigned [] = []
unsigned (x ∷ r) = pick (eqb x 45) r (x ∷ r)

-- N w.d: an optional minus, 1 to w digits, a point, d digits (d is 1 or more)
unfoldable pub is_decimal : ℕ → ℕ → List ℕ → Bool
is_decimal w d f = is_number w (up_to 46 (unsigned f)) && is_digits d (past 46 (unsigned f))

-- a year with a 29 February
unfoldable pub is_leap : ℕ → Bool
is_leap y = eqb (y % 4) 0 && (not (eqb (y % 100) 0) || eqb (y % 400) 0)

-- the days of a month
unfoldable pub days_in : ℕ → ℕ → ℕ
days_in y m = pick (eqb m 2) (pick (is_leap y) 29 28) (pick (eqb m 4 || (eqb m 6 || (eqb m 9 || eqb m 11))) 30 31)

-- a real Gregorian day, from the year 1583 on
unfoldable pub is_day : ℕ → ℕ → ℕ → Bool
is_day y m d = leb 1583 y && (leb 1 m && (leb m 12 && (leb 1 d && leb d (days_in y m))))

-- CCYY-MM-DD
unfoldable pub is_date : List ℕ → Bool
is_date f =
    eqb (length f) 10
    && ((is_digits 4 (part f 0 4) && (same (part f 4 5) (45 ∷ []) && (is_digits 2 (part f 5 7) && (same (part f 7 8) (45 ∷ []) && is_digits 2 (part f 8 10)))))
    && is_day (value (part f 0 4)) (value (part f 5 7)) (value (part f 8 10)))

-- HHMMSS, 000000 to 235959
unfoldable pub is_time : List ℕ → Bool
is_time f = is_digits 6 f && (leb (value (part f 0 2)) 23 && (leb (value (part f 2 4)) 59 && leb (value (part f 4 6)) 59))

-- each byte of a text is 0x20 or more and neither 0x22 nor 0x7F
unfoldable pub is_text_byte : ℕ → Bool
is_text_byte x = leb 32 x && (not (eqb x 34) && not (eqb x 127))

-- a text within its quotes
abbrev pub quoted : List ℕ → List ℕ
quoted t = 34 ∷ (t ++ (34 ∷ []))

-- what stands between the first byte and the last
unfoldable pub inside : List ℕ → List ℕ
inside f = part f 1 (length f - 1)

-- what may stand between the quotes of a text of width w
abbrev pub TextRule : Type 0
TextRule = ℕ → List ℕ → Bool

-- a text's bytes, and 0 to w characters of well-formed UTF-8: its width counts characters (paper 02, request 02)
unfoldable pub by_characters : TextRule
by_characters w t = all is_text_byte t && at_most w [] t

-- the values of CHANGE_TYPE
abbrev pub change_types : List (List ℕ)
change_types = bytes "\"I\"" ∷ bytes "\"U\"" ∷ bytes "\"D\"" ∷ []

-- those of XREF_TYPE
abbrev pub xref_types : List (List ℕ)
xref_types = bytes "1" ∷ bytes "2" ∷ []

-- those of FILE_TYPE
abbrev pub file_types : List (List ℕ)
file_types = bytes "\"A\"" ∷ bytes "\"B\"" ∷ bytes "\"C\"" ∷ bytes "\"D\"" ∷ bytes "\"E\"" ∷ bytes "\"F\"" ∷ bytes "\"G\"" ∷ bytes "\"H\"" ∷ []

-- one of a list of values
unfoldable pub one_of : List (List ℕ) → List ℕ → Bool
one_of [] f = false
one_of (v ∷ vs) f = same f v || one_of vs f

-- the form is a text's
unfoldable pub is_textual : Form → Bool
is_textual (number w) = false
is_textual (at_least1 w) = false
is_textual (decimal w d) = false
is_textual date = false
is_textual time = false
is_textual (text w) = true
is_textual change_type = true
is_textual xref_type = false
is_textual file_type = true
is_textual (key_text letter) = true

-- empty means: two quotes for text, no bytes for the rest
abbrev pub empty_of : Form → List ℕ
empty_of m = pick (is_textual m) (34 ∷ 34 ∷ []) []

-- a field is empty
unfoldable pub is_empty : Form → List ℕ → Bool
is_empty m f = same f (empty_of m)

-- what keys compare: a number's value; the bytes of a text
unfoldable pub value_of : Form → List ℕ → List ℕ
value_of m f = pick (is_textual m) (inside f) (value f ∷ [])

-- ---- forms under a rule for texts

module _ (rule : TextRule) where
  -- T w: a quote, what the rule allows for w, a quote
  unfoldable pub is_text : ℕ → List ℕ → Bool
  is_text w f = same f (quoted (inside f)) && rule w (inside f)

  -- four digits, a letter, nine digits, in quotes
  unfoldable pub is_key : ℕ → List ℕ → Bool
  is_key letter f = is_text 14 f && (eqb (length f) 16 && (is_digits 4 (part f 1 5) && (same (part f 5 6) (letter ∷ []) && is_digits 9 (part f 6 15))))

  -- a filled field has the form
  unfoldable pub has_form : Form → List ℕ → Bool
  has_form (number w) f = is_number w f
  has_form (at_least1 w) f = is_number w f && leb 1 (value f)
  has_form (decimal w d) f = is_decimal w d f
  has_form date f = is_date f
  has_form time f = is_time f
  has_form (text w) f = is_text w f
  has_form change_type f = one_of change_types f
  has_form xref_type f = one_of xref_types f
  has_form file_type f = one_of file_types f
  has_form (key_text letter) f = is_key letter f

  -- a field is sound: empty where it need not be filled, else of its form
  unfoldable pub sound_as : Form → Bool → List ℕ → Bool
  sound_as m filled f = pick (is_empty m f) (not filled) (has_form m f)
