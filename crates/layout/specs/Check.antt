-- The check of a line, as code answers it.
use Rattle.std.specs.Prelude.{◌≡◌, Bool, true, List, [], ◌∷◌, ℕ, suc, ◌≤◌, length}
use Rattle.std.proofs.Math.Option.{Option, none, some}
use Rattle.base.specs.Lists.{ask}
use Rattle.meaning.specs.Forms.{sound_as}
use Rattle.meaning.specs.Place.{place_as}
use Rattle.meaning.specs.Lines.{has_fields}
use Rattle.meaning.specs.Kinds.{Kind}
use Rattle.meaning.specs.Format.{named, start_date, end_date}
use Rattle.meaning.specs.Table.{fields, scottish}
use Rattle.meaning.specs.Answers as meant
use Rattle.meaning.specs.Answers.{of_byte}
use Rattle.meaning.specs.Codes.{field_malformed}
use Rattle.meaning.specs.Sound.{dates_agree}
use Rattle.text.specs.Places.{Notes}
use Rattle.layout.specs.Rows.{Row}

-- the fault of field n, which is malformed as its row has it
abbrev pub bad_field : ℕ → Row → List ℕ → meant.Fault
bad_field n d f = of_byte field_malformed n (place_as scottish.text_rule d.0 d.1 f)

-- the fault of the lowest field that is malformed, counted from n; none where each is sound
unfoldable pub lowest_bad : ℕ → List Row → List (List ℕ) → Option meant.Fault
lowest_bad n [] fs = none
lowest_bad n (d ∷ ds) [] = none
lowest_bad n (d ∷ ds) (f ∷ fs) = ask (sound_as scottish.text_rule d.0 d.1 f) (bad_field n d f) (lowest_bad (suc n) ds fs)

-- the first of two faults, where there is one
abbrev pub first_of : Option meant.Fault → Option meant.Fault → Option meant.Fault
first_of none rest = rest
first_of (some f) rest = some f

-- START_DATE and END_DATE among the fields of a kind are in order
unfoldable pub kind_dates : Kind → List (List ℕ) → Bool
kind_dates k fs = dates_agree (named start_date (fields k) fs) (named end_date (fields k) fs)

-- a line has as many fields as its kind, and their ends are noted in an array that has room for those of every kind
pub record Parted (k : Kind) (t a : List ℕ) : Type 0 where
  pub many : true ≡ has_fields (length (fields k)) t
  pub noted : Notes t a
  pub room : 32 ≤ length a
