-- The record that a line carries, and that of an entry, which says where its line starts, in the holding or in the file.
use Rattle.std.proofs.Math.Option.{Option, none, some}
use Rattle.std.specs.Prelude.{List, ℕ, ◌/◌, ◌%◌, eqb, take, drop}
use Rattle.base.specs.Lists.{pick}
use Rattle.meaning.specs.Lines.{identifier}
use Rattle.meaning.specs.Kinds.{Kind, header}
use Rattle.meaning.specs.Format.{kind_of}
use Rattle.meaning.specs.Table.{scottish}
use Rattle.meaning.specs.Records.{Rec, content_of}
use Rattle.text.specs.Places.{line_len}

-- the kind that was found; an unknown one is taken for a header's, which is never held
abbrev pub known : Option Kind → Kind
known none = header
known (some k) = k

-- the record that a line's text carries
unfoldable pub rec_of : List ℕ → Rec
rec_of t = record { kind = known (kind_of scottish (identifier t)); content = content_of t }

-- the text of the line that starts at `at`
unfoldable pub line_at : List ℕ → ℕ → List ℕ
line_at s at = take (line_len (drop at s)) (drop at s)

-- the record of an entry, which is twice the offset of its line's start: even for the holding, odd for the file
unfoldable pub record_of : List ℕ → List ℕ → ℕ → Rec
record_of h f v = rec_of (line_at (pick (eqb (v % 2) 0) h f) (v / 2))
