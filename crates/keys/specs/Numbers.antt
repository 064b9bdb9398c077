-- A record's key and references as four numbers each: its kind's number, and the numbers of at most three fields.
use Rattle.std.proofs.Math.Option.{Option, none, some}
use Rattle.std.specs.Prelude.{List, [], ◌∷◌, ◌++◌, ℕ, take, drop}
use Prim.Native.String.{String}
use Rattle.base.specs.Lists.{pick, part}
use Rattle.theory.specs.Decimal.{value}
use Rattle.theory.specs.Lex.{lex}
use Rattle.theory.specs.LexLaws.{lex_order}
use Rattle.theory.specs.Keyed.{Keyed}
use Rattle.meaning.specs.Lines.{fields_of}
use Rattle.meaning.specs.Forms.{Form, is_textual}
use Rattle.meaning.specs.Kinds.{Kind, ident}
use Rattle.meaning.specs.Format.{named, form_named}
use Rattle.meaning.specs.Table.{key_names, refers_to, scottish}
use Rattle.meaning.specs.Records.{Rec, own_fields, empty_named}
use Rattle.layout.specs.Rows.{padded}
use Rattle.keys.specs.declared.Key.{Key}
use Rattle.std.specs.Prelude as std
use Rattle.std.specs.Prelude.{Some, None}

-- ---- the numbers of fields

-- the digits of a key's text, four and nine round its letter
unfoldable pub digits_in : List ℕ → List ℕ
digits_in f = part f 1 5 ++ part f 6 15

-- the number by which keys compare a field: that of a text's digits, or a number's value, of 16 digits at most
unfoldable pub number_of : Form → List ℕ → ℕ
number_of m f = pick (is_textual m) (value (digits_in f)) (value (take 16 f))

-- the number of a record's field of that name
unfoldable pub number_named : Rec → String → ℕ
number_named r s = number_of (form_named s (own_fields scottish r.kind)) (named s (own_fields scottish r.kind) (fields_of r.content))

-- the numbers of several fields, one after another
unfoldable pub numbers_named : Rec → List String → List ℕ
numbers_named r [] = []
numbers_named r (s ∷ ss) = number_named r s ∷ numbers_named r ss

-- ---- keys and references

-- lines are ordered by kind, then key: the kind's number, and those of the key's fields
unfoldable pub key_numbers : Rec → List ℕ
key_numbers r = value (ident r.kind) ∷ padded 3 (numbers_named r (key_names r.kind))

-- the key by which a record refers, in one row of the table, to another
unfoldable pub ref_key : Rec → Kind × List String → List ℕ
ref_key r p = value (ident p.0) ∷ padded 3 (numbers_named r p.1)

-- the keys that a record refers to: an empty field refers to nothing
unfoldable pub ref_numbers_from : Rec → List (Kind × List String) → List (List ℕ)
ref_numbers_from r [] = []
ref_numbers_from r (p ∷ ps) = pick (empty_named scottish r p.1) (ref_numbers_from r ps) (ref_key r p ∷ ref_numbers_from r ps)

-- the keys that a record's kind makes it refer to
unfoldable pub ref_numbers : Rec → List (List ℕ)
ref_numbers r = ref_numbers_from r (refers_to r.kind)

-- what the first of some rows gives: an empty field refers to nothing
unfoldable pub ref_first : Rec → List (Kind × List String) → Option (List ℕ)
ref_first r [] = none
ref_first r (p ∷ ps) = pick (empty_named scottish r p.1) none (some (ref_key r p))

-- what a kind's row j gives, counted from 0: the key that a content refers to by it
unfoldable pub ref_at : Kind → List ℕ → ℕ → Option (List ℕ)
ref_at k c j = ref_first (record { kind = k; content = c }) (drop j (refers_to k))

-- records by their keys as numbers, in one lexicographic order
abbrev pub numbered : Keyed
numbered = record { Key = List ℕ; Rec = Rec; cmp = lex; order = lex_order; key = key_numbers }

-- ---- as code has them

-- the numbers of a key
abbrev pub key_list : Key → List ℕ
key_list k = k.kind ∷ k.first ∷ k.second ∷ k.third ∷ []

-- the key that is referred to, if any
abbrev pub referred_as : std.Option Key → Option (List ℕ)
referred_as (Some k) = some (key_list k)
referred_as None = none
