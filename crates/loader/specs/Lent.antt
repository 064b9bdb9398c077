-- What the writer of an undo is lent.
use Rattle.std.specs.Prelude.{List, ℕ, ◌+◌, ◌≤◌, length}
use Rattle.text.specs.Places.{line_end}

-- an entry for each step, and a file whose body starts after its first line and ends within it
pub record Lent (f before : List ℕ) (n end : ℕ) : Type 0 where
  pub each : n ≤ length before
  pub opens : line_end f 0 + 2 ≤ end
  pub ends : end ≤ length f
