-- Paper 01, 'Lines and fields', the first three points: what a line, an identifier and a field are.
use Rattle.std.specs.Prelude.{Bool, true, false, not, ◌&&◌, List, [], ◌∷◌, ℕ, eqb, length}
use Rattle.base.specs.Lists.{all, pick, up_to}

-- ---- the bytes that lines and fields go by

-- CR
abbrev pub cr : ℕ
cr = 13

-- LF
abbrev pub lf : ℕ
lf = 10

-- a comma
abbrev pub comma : ℕ
comma = 44

-- a double quote
abbrev pub quote : ℕ
quote = 34

-- ---- lines

-- a line: its bytes, and whether a CR LF ends it
pub record Line : Type 0 where
  pub text : List ℕ
  pub ended : Bool

-- the lines with one byte more in front of the first
unfoldable pub grow : ℕ → List Line → List Line
grow x [] = record { text = x ∷ []; ended = false } ∷ []
grow x (l ∷ ls) = record { text = x ∷ l.text; ended = l.ended } ∷ ls

-- a line runs up to the next CR LF; bytes left after the last CR LF are a line with no ending
unfoldable pub lines_of : List ℕ → List Line
lines_of [] = []
lines_of (x ∷ []) = grow x []
lines_of (x ∷ (y ∷ r)) = pick (eqb x cr && eqb y lf) (record { text = []; ended = true } ∷ lines_of r) (grow x (lines_of (y ∷ r)))

-- neither CR nor LF
unfoldable pub plain : ℕ → Bool
plain x = not (eqb x cr) && not (eqb x lf)

-- every line must end in CR LF and hold no other CR or LF, not even within quotes
unfoldable pub ends_well : Line → Bool
ends_well l = l.ended && all plain l.text

-- the identifier is the bytes before the first comma, or the whole line where there is none
unfoldable pub identifier : List ℕ → List ℕ
identifier t = up_to comma t

-- ---- fields

-- a double quote opens or closes quoting: quoting after a byte, where it was q before
unfoldable pub turned : Bool → ℕ → Bool
turned q x = pick (eqb x quote) (not q) q

-- fields are separated by commas outside quotes
unfoldable pub is_sep : Bool → ℕ → Bool
is_sep q x = not q && eqb x comma

-- a byte in front of the first field, or an empty field in front of a separator
unfoldable pub add_byte : Bool → ℕ → List (List ℕ) → List (List ℕ)
add_byte true x fs = [] ∷ fs
add_byte false x [] = (x ∷ []) ∷ []
add_byte false x (f ∷ fs) = (x ∷ f) ∷ fs

-- the fields of what is left of a line, where quoting is q
unfoldable pub fields_from : Bool → List ℕ → List (List ℕ)
fields_from q [] = [] ∷ []
fields_from q (x ∷ r) = add_byte (is_sep q x) x (fields_from (turned q x) r)

-- the fields of a line
unfoldable pub fields_of : List ℕ → List (List ℕ)
fields_of t = fields_from false t

-- quoting at the end of a line
unfoldable pub quote_after : Bool → List ℕ → Bool
quote_after q [] = q
quote_after q (x ∷ r) = quote_after (turned q x) r

-- a line has an odd number of quotes
unfoldable pub odd_quotes : List ℕ → Bool
odd_quotes t = quote_after false t

-- a line has so many fields; one with an odd number of quotes has a wrong field count
unfoldable pub has_fields : ℕ → List ℕ → Bool
has_fields n t = not (odd_quotes t) && eqb (length (fields_of t)) n

-- what stands after the next separator
unfoldable pub after_field : Bool → List ℕ → List ℕ
after_field q [] = []
after_field q (x ∷ r) = pick (is_sep q x) r (after_field (turned q x) r)
