-- The rows of the code's table, as the meaning has them: a field without its name, and places of fields by number.
use Rattle.std.specs.Prelude.{Bool, false, List, [], ◌∷◌, ◌++◌, map, ℕ, zero, suc, ◌/◌, ◌%◌, eqb, length, get_or}
use Prim.Native.String.{String}
use Rattle.base.specs.Lists.{pick, zeros}
use Rattle.theory.specs.Decimal.{value}
use Rattle.meaning.specs.Forms.{Form, number, at_least1, decimal, date, time, text, change_type, xref_type, file_type, key_text, sound_as}
use Rattle.meaning.specs.Kinds.{Kind, ident}
use Rattle.meaning.specs.Format.{Field, field_number, start_date, end_date}
use Rattle.meaning.specs.Table.{fields, key_names, refers_to, scottish}
use Rattle.layout.specs.declared.records.Layout.{Layout}

-- a field's form, and whether it must be filled
abbrev pub Row : Type 0
Row = Form × Bool

-- a field without its name
abbrev pub bare : Field → Row
bare d = (d.form, d.filled)

-- no field
abbrev pub no_row : Row
no_row = (number 0, false)

-- the row of a field of a kind, counted from 0
unfoldable pub row_of : Kind → ℕ → Row
row_of k i = get_or (map bare (fields k)) i no_row

-- ---- a row as a number: form + 16 * (width + 256 * (decimals + 16 * status))

-- the form that a number says
unfoldable pub form_decoded : ℕ → Form
form_decoded c =
    pick (eqb (c % 16) 0) (number (c / 16 % 256))
    (pick (eqb (c % 16) 1) (at_least1 (c / 16 % 256))
    (pick (eqb (c % 16) 2) (decimal (c / 16 % 256) (c / 4096 % 16))
    (pick (eqb (c % 16) 3) date
    (pick (eqb (c % 16) 4) time
    (pick (eqb (c % 16) 5) (text (c / 16 % 256))
    (pick (eqb (c % 16) 6) change_type (pick (eqb (c % 16) 7) xref_type (pick (eqb (c % 16) 8) file_type (key_text (c / 16 % 256))))))))))

-- the status that a number says
unfoldable pub filled_decoded : ℕ → Bool
filled_decoded c = eqb (c / 65536 % 2) 1

-- both
abbrev pub decoded : ℕ → Row
decoded c = (form_decoded c, filled_decoded c)

-- a field is sound as the row has it that a number says
abbrev pub sound_by : ℕ → List ℕ → Bool
sound_by c f = sound_as scottish.text_rule (form_decoded c) (filled_decoded c) f

-- ---- places of fields, counted from 1

-- the places of the fields of these names
unfoldable pub places_of : Kind → List String → List ℕ
places_of k [] = []
places_of k (s ∷ ss) = field_number 1 s (fields k) ∷ places_of k ss

-- so many numbers: those given, then zeros
unfoldable pub padded : ℕ → List ℕ → List ℕ
padded zero ns = []
padded (suc m) [] = zeros (suc m)
padded (suc m) (n ∷ ns) = n ∷ padded m ns

-- the numbers of the kinds that are referred to
unfoldable pub targets : List (Kind × List String) → List ℕ
targets [] = []
targets (p ∷ ps) = value (ident p.0) ∷ targets ps

-- the names of the fields by which they are, of which each reference has one
unfoldable pub sources : List (Kind × List String) → List String
sources [] = []
sources (p ∷ ps) = p.1 ++ sources ps

-- what a kind is, by the meaning's table
unfoldable pub laid_out : Kind → Layout
laid_out k = record {
  number = value (ident k);
  count = length (fields k);
  start = field_number 1 start_date (fields k);
  end = field_number 1 end_date (fields k);
  key = padded 3 (places_of k (key_names k));
  to = padded 2 (targets (refers_to k));
  by = padded 2 (places_of k (sources (refers_to k)));
}
