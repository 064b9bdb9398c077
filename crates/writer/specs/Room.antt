-- What is written only where it fits its room.
use Rattle.std.specs.Prelude.{◌≡◌, List, ℕ, ◌≤◌, ◌<◌, length, Option, Some, None}
use Rattle.text.specs.Front.{in_front}

-- the text fits, n bytes are written, and they are the text in the front of the output
pub record Put (text : List ℕ) (room : ℕ) (old : List ℕ) (n : ℕ) (new : List ℕ) : Type 0 where
  pub fits : length text ≤ room
  pub size : n ≡ length text
  pub front : new ≡ in_front text old

-- whether the text fits `room` bytes; and where it does, it is written
abbrev pub PutIfFits : List ℕ → ℕ → List ℕ → Option ℕ → List ℕ → Type 0
PutIfFits text room old None new = room < length text
PutIfFits text room old (Some n) new = Put text room old n new
