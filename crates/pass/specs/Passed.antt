-- What is known of a line that was passed.
use Rattle.std.specs.Prelude.{◌≡◌, true, List, ℕ, ◌+◌, ◌≤◌, ◌<◌, length, get_or, drop}
use Rattle.std.proofs.Math.Option.{none}
use Rattle.meaning.specs.Lines.{fields_of, has_fields}
use Rattle.text.specs.Places.{ends_here, plain_end, Notes}
use Rattle.words.specs.Words.{upto}
use Rattle.layout.specs.Rows.{Row, sound_by}
use Rattle.layout.specs.Check.{lowest_bad}

-- a line that starts at `at` was passed up to its CR LF at e: each field is sound as its row has it, and its ends are noted
pub record Passed (rs : List Row) (s a : List ℕ) (at e : ℕ) : Type 0 where
  pub forward : at ≤ e
  pub within : e ≤ length s
  pub plain : e ≡ plain_end s at
  pub ended : true ≡ ends_here (drop e s)
  pub many : true ≡ has_fields (length rs) (upto s at e)
  pub noted : Notes (upto s at e) a
  pub low : none ≡ lowest_bad 1 rs (fields_of (upto s at e))

-- a line that starts at `at` has two bytes before a comma that are sound as the first of the rows has it, and their end is noted
pub record Started (rows s a : List ℕ) (at : ℕ) : Type 0 where
  pub noted : get_or a 0 0 ≡ 2
  pub inside : at + 2 < length s
  pub comma : get_or s (at + 2) 0 ≡ 44
  pub some : 1 ≤ length rows
  pub sound : sound_by (get_or rows 0 0) (upto s at (at + 2)) ≡ true
