-- What is known of a line by where it ends.
use Rattle.std.specs.Prelude.{◌≡◌, List, map, ℕ}
use Rattle.std.proofs.Math.Option.{none, some}
use Rattle.meaning.specs.Lines.{identifier, fields_of}
use Rattle.meaning.specs.Kinds.{Kind}
use Rattle.meaning.specs.Format.{kind_of}
use Rattle.meaning.specs.Table.{fields, scottish}
use Rattle.words.specs.Words.{upto}
use Rattle.layout.specs.Rows.{bare}
use Rattle.layout.specs.Check.{lowest_bad}

-- the bytes from `at` up to r are a line of a kind that is known, and no field of it is malformed
pub record SoundUpTo (s : List ℕ) (at r : ℕ) : Type 0 where
  pub kind : Kind
  pub known : kind_of scottish (identifier (upto s at r)) ≡ some kind
  pub formed : none ≡ lowest_bad 1 (map bare (fields kind)) (fields_of (upto s at r))
