-- What a format is: the kinds that it knows, the fields, key and references of each, and its rule for texts. From Sound on, whatever hangs on a
-- format is stated of any; paper 01's is the one value `scottish`, in Table.
use Rattle.std.specs.Prelude.{Bool, true, false, List, [], ◌∷◌, ℕ, suc}
use Rattle.std.proofs.Math.Option.{Option}
use Prim.Native.String.{String}
use lib.Text.{eqt}
use Rattle.base.specs.Lists.{pick, some?}
use Rattle.meaning.specs.Forms.{Form, number, change_type, TextRule}
use Rattle.meaning.specs.Kinds.{Kind, ident, kind_among}

-- ---- the fields of a kind

-- a field: its name, its form, and whether it must be filled
pub record Field : Type 0 where
  pub name : String
  pub form : Form
  pub filled : Bool

-- mandatory fields aren't empty; conditional and optional ones may be
abbrev pub man : String → Form → Field
man n f = record { name = n; form = f; filled = true }

-- a field that may be empty
abbrev pub may : String → Form → Field
may n f = record { name = n; form = f; filled = false }

-- how every body line begins
abbrev pub opening : List Field
opening = man "RECORD_IDENTIFIER" (number 2) ∷ man "CHANGE_TYPE" change_type ∷ man "PRO_ORDER" (number 16) ∷ []

-- names that the rules ask for: the date that END_DATE may not be before
abbrev pub start_date : String
start_date = "START_DATE"

-- the date that code 6 names
abbrev pub end_date : String
end_date = "END_DATE"

-- the running number of a body line
abbrev pub pro_order : String
pro_order = "PRO_ORDER"

-- the number of body lines that a trailer says
abbrev pub record_count : String
record_count = "RECORD_COUNT"

-- the number of the field of that name, counted from n; 0 where there is none
unfoldable pub field_number : ℕ → String → List Field → ℕ
field_number n s [] = 0
field_number n s (d ∷ ds) = pick (eqt s d.name) n (field_number (suc n) s ds)

-- the bytes of the field of that name; none where there is none
unfoldable pub named : String → List Field → List (List ℕ) → List ℕ
named s [] fs = []
named s (d ∷ ds) [] = []
named s (d ∷ ds) (f ∷ fs) = pick (eqt s d.name) f (named s ds fs)

-- the form of the field of that name
unfoldable pub form_named : String → List Field → Form
form_named s [] = number 0
form_named s (d ∷ ds) = pick (eqt s d.name) d.form (form_named s ds)

-- ---- a format

-- what differs between formats
pub record Format : Type 0 where
  pub known : List Kind  -- the kinds that it knows; any other identifier is unknown
  pub fields : Kind → List Field  -- the fields of a known kind, in order
  pub key_names : Kind → List String  -- the key of a held kind
  pub refers_to : Kind → List (Kind × List String)  -- what a held kind refers to, and by which fields
  pub enquiries : List Kind  -- the kinds that an enquiry may name by number
  pub text_rule : TextRule  -- what may stand between the quotes of a text

module _ (F : Format) where
  -- the kind of an identifier; none where it is unknown
  unfoldable pub kind_of : List ℕ → Option Kind
  kind_of i = kind_among F.known i

  -- the format knows a kind
  unfoldable pub knows : Kind → Bool
  knows k = some? (kind_of (ident k))
