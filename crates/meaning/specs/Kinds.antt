-- Paper 01, 'What the loader covers': the kinds of record, their identifiers, and which line of a file each is. These are the same in every format.
use Rattle.std.proofs.Math.Option.{Option, none, some}
use Rattle.std.specs.Prelude.{List, [], ◌∷◌, ℕ, eqb}
use Rattle.theory.specs.Decimal.{value}
use Rattle.base.specs.Lists.{pick, same, bytes}

-- the kinds that some format knows
pub data Kind : Type 0 where
  header street street_xref blpu app_xref lpi metadata trailer : Kind

-- all of them
unfoldable pub kinds : List Kind
kinds = header ∷ street ∷ street_xref ∷ blpu ∷ app_xref ∷ lpi ∷ metadata ∷ trailer ∷ []

-- the identifier
unfoldable pub ident : Kind → List ℕ
ident header = bytes "10"
ident street = bytes "11"
ident street_xref = bytes "12"
ident blpu = bytes "21"
ident app_xref = bytes "23"
ident lpi = bytes "24"
ident metadata = bytes "29"
ident trailer = bytes "99"

-- which line of a file a record is: held kinds are body lines
pub data Role : Type 0 where
  header_line body_line metadata_line trailer_line : Role

-- the role of each kind
unfoldable pub role : Kind → Role
role header = header_line
role street = body_line
role street_xref = body_line
role blpu = body_line
role app_xref = body_line
role lpi = body_line
role metadata = metadata_line
role trailer = trailer_line

-- the kind of an identifier, among those given
unfoldable pub kind_among : List Kind → List ℕ → Option Kind
kind_among [] i = none
kind_among (k ∷ ks) i = pick (same i (ident k)) (some k) (kind_among ks i)

-- the kind whose identifier, as a number, is n, among those given
unfoldable pub numbered_among : List Kind → ℕ → Option Kind
numbered_among [] n = none
numbered_among (k ∷ ks) n = pick (eqb n (value (ident k))) (some k) (numbered_among ks n)
