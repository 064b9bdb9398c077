-- What print promises.
use Rattle.std.specs.Prelude as std
use Rattle.std.specs.Prelude.{◌≡◌, Bool, true, false, List, [], ℕ, ◌+◌, length, Some, None, is_some}
use Rattle.std.specs.Borrow.{Bor}
use Rattle.std.proofs.Math.Option.{Option, none, some}
use Rattle.meaning.specs.Table.{scottish}
use Rattle.meaning.specs.Program.{program, program_room}
use Rattle.text.specs.Front.{in_front}
use Rattle.printed.specs.Printed.{most_of_numbers}

-- an input that was read, or could not be
abbrev pub input_of : Bool → List ℕ → Option (List ℕ)
input_of true b = some b
input_of false b = none

-- the bytes of an input, as code has it; one that could not be read has none
abbrev pub bytes_of : std.Option (Bor (List ℕ)) → List ℕ
bytes_of (Some b) = b.now
bytes_of None = []

-- and what of it was read
abbrev pub read_of : std.Option (Bor (List ℕ)) → Option (List ℕ)
read_of o = input_of (is_some o) (bytes_of o)

-- the most bytes that are printed: the numbers of an answer, and a holding
abbrev pub most_printed : ℕ
most_printed = most_of_numbers + program_room

-- how many bytes it left in the front of its buffer, and the buffer afterwards
abbrev pub PrintOutcome : Bool → List ℕ → Bool → List ℕ → List ℕ → ℕ → List ℕ → Type 0
PrintOutcome held holding sent change before n printed =
    (n ≡ length (program scottish (input_of held holding) (input_of sent change))) × (printed ≡ in_front (program scottish (input_of held holding) (input_of sent change)) before)
