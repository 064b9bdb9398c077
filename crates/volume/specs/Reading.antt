-- The walk of a file's lines, at an offset.
use Rattle.std.specs.Prelude.{◌≡◌, List, ℕ, ◌+◌, ◌≤◌, length, drop}
use Rattle.meaning.specs.Lines.{lines_of}
use Rattle.meaning.specs.Table.{scottish}
use Rattle.meaning.specs.Load.{check_file}
use Rattle.volume.specs.declared.walk.Walk.{Walk}
use Rattle.volume.specs.Walk.{left_of, Within}

-- what is left answers what the file does, and no number has passed the bytes that were read
pub record Reading (s : List ℕ) (w : Walk) (at : ℕ) : Type 0 where
  pub left : left_of w (lines_of (drop at s)) ≡ check_file scottish s
  pub within : Within w at
  pub stands : at ≤ length s + 2
