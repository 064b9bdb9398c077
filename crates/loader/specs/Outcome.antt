-- What load promises of the numbers answered and the bytes left; what follows from that stands in the crate `claims`.
use Rattle.std.specs.Prelude.{◌≡◌, List, ℕ, length, Result, Ok, Err}
use Rattle.meaning.specs.Table.{scottish}
use Rattle.meaning.specs.Load.{load_file, load}
use Rattle.theory.specs.Answer.{refused}
use Rattle.answers.specs.declared.numbers.Counts.{Counts}
use Rattle.answers.specs.declared.refusal.Refusal.{Refusal}
use Rattle.answers.specs.Meant.{answer_of, answer_said, refusal_meant}
use Rattle.answers.specs.declared.numbers.Answer.{Answer}

-- the promise: the numbers, the bytes of the buffer for the new holding and those of the buffer for the undo are the definition's
abbrev pub Outcome : List ℕ → List ℕ → ℕ → ℕ → Answer → List ℕ → List ℕ → Type 0
Outcome old file room undo_room r out undo =
    (r ≡ answer_of (load_file scottish old file room undo_room).answer) × (out ≡ (load_file scottish old file room undo_room).output)
    × (undo ≡ (load_file scottish old file room undo_room).undo)

-- the same where the file is taken; where it is refused, why, and buffers of whatever bytes but no other lengths
abbrev pub TakenAs : List ℕ → List ℕ → ℕ → ℕ → Result Counts Refusal → List ℕ → List ℕ → Type 0
TakenAs old file room undo_room (Ok n) out undo = Outcome old file room undo_room (answer_said (Ok n)) out undo
TakenAs old file room undo_room (Err r) out undo = (load scottish room undo_room old file ≡ refused (refusal_meant r)) × (length out ≡ room) × (length undo ≡ undo_room)
