-- The changes that lines of a file say, and how the steps that were made of them, as entries, are taken back.
use Rattle.std.specs.Prelude.{List, [], ◌∷◌, ℕ, zero, suc, ◌/◌, get_or}
use Rattle.theory.specs.Step.{Op, Change, inv}
use Rattle.meaning.specs.Lines.{fields_of}
use Rattle.meaning.specs.Records.{Rec, op_of}
use Rattle.entries.specs.Entries.{line_at, record_of, rec_of}

-- an operation on a record
abbrev pub change : Op → Rec → Change Rec
change p r = record { op = p; rec = r }

-- the change that the line at `at` says
abbrev pub change_at : List ℕ → ℕ → Change Rec
change_at f at = change (op_of (get_or (fields_of (line_at f at)) 1 [])) (rec_of (line_at f at))

-- what a step does to its record: CHANGE_TYPE of the line of the file that its entry names
unfoldable pub op_at : List ℕ → ℕ → Op
op_at f v = op_of (get_or (fields_of (line_at f (v / 2))) 1 [])

-- the first n steps taken back, the last first, each with the record that stood at its key before it, or its own where none did
unfoldable pub steps_back : List ℕ → List ℕ → List ℕ → List ℕ → ℕ → List (Change Rec)
steps_back h f steps before zero = []
steps_back h f steps before (suc k) = record { op = inv (op_at f (get_or steps k 0)); rec = record_of h f (get_or before k 0) } ∷ steps_back h f steps before k
