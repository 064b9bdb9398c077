-- Where a reader stands, where it goes, and which lines it has left.
use Rattle.std.specs.Prelude.{List, ℕ, ◌+◌, ltb, length, drop, map}
use Rattle.base.specs.Lists.{pick}
use Rattle.meaning.specs.Lines.{lines_of}
use Rattle.text.specs.Places.{line_end}

-- a place within the bytes; past their end, their start
unfoldable pub start_in : List ℕ → ℕ → ℕ
start_in s at = pick (ltb (length s) at) 0 at

-- where the line after the one at `at` starts: past its CR LF, or at the end of the bytes
unfoldable pub next_line : List ℕ → ℕ → ℕ
next_line s at = pick (ltb (length s) at) (length s) (pick (ltb (line_end s at) (length s)) (line_end s at + 2) (line_end s at))

-- the texts of the lines from `at` on, as the meaning has them
unfoldable pub lines_left : List ℕ → ℕ → List (List ℕ)
lines_left s at = map (λ l. l.text) (lines_of (drop at s))
