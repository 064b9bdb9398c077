-- The kinds that code names, as the meaning has them.
use Rattle.std.specs.Prelude as std
use Rattle.std.specs.Prelude.{Some, None}
use Rattle.std.proofs.Math.Option.{Option, none, some}
use Rattle.meaning.specs.Kinds
use Rattle.meaning.specs.Kinds.{Kind as Meaning}
use Rattle.layout.specs.declared.kinds.HeldKind.{HeldKind}
use Rattle.layout.specs.declared.kinds.HeldKind.TheVariants.{Street, StreetXref, Blpu, AppXref, Lpi}
use Rattle.layout.specs.declared.kinds.Kind.{Kind}
use Rattle.layout.specs.declared.kinds.Kind.TheVariants.{Header, Held, Metadata, Trailer}

-- the held kind that is meant
abbrev pub held_meant : HeldKind → Meaning
held_meant Street = Kinds.street
held_meant StreetXref = Kinds.street_xref
held_meant Blpu = Kinds.blpu
held_meant AppXref = Kinds.app_xref
held_meant Lpi = Kinds.lpi

-- the kind that is meant
abbrev pub kind_meant : Kind → Meaning
kind_meant Header = Kinds.header
kind_meant (Held k) = held_meant k
kind_meant Metadata = Kinds.metadata
kind_meant Trailer = Kinds.trailer

-- the kind that was found, if any
abbrev pub kind_found : std.Option Kind → Option Meaning
kind_found (Some k) = some (kind_meant k)
kind_found None = none
