-- What a file that is taken leaves for the writers, and what is answered whether it is taken or not.
use Rattle.std.specs.Prelude.{◌≡◌, List, ◌++◌, ℕ, ◌+◌, ◌≤◌, length, take, drop, Result, Ok, Err}
use Rattle.theory.specs.Answer.{took, refused}
use Rattle.meaning.specs.Table.{scottish}
use Rattle.meaning.specs.File.{most_body}
use Rattle.meaning.specs.Holding.{written}
use Rattle.meaning.specs.Load.{tried}
use Rattle.meaning.specs.Undo.{undo_bytes}
use Rattle.text.specs.Places.{line_end}
use Rattle.places.specs.Places.{says}
use Rattle.answers.specs.declared.refusal.Refusal.{Refusal}
use Rattle.answers.specs.Meant.{counts_meant, refusal_meant}
use Rattle.writer.specs.Runs.{back_texts}
use Rattle.trial.specs.declared.Trial.{Trial}

-- an undo: the file's first line, the first n steps taken back, and what stands in the file from `end` on
unfoldable pub undo_text : List ℕ → List ℕ → List ℕ → List ℕ → ℕ → ℕ → List ℕ
undo_text h f steps before n end = take (line_end f 0 + 2) f ++ (back_texts h f steps before n ++ drop end f)

-- the places say the new holding, and the steps made say the undo
pub record Taken (h f places steps before : List ℕ) (room : ℕ) (r : Trial) : Type 0 where
  pub made : tried scottish room h f ≡ took (written (says h f places r.count)) (counts_meant r.counts)
  pub held : r.count ≤ length places
  pub fits : length (written (says h f places r.count)) ≤ room
  pub few : r.steps ≤ most_body
  pub opens : line_end f 0 + 2 ≤ r.end
  pub ends : r.end ≤ length f
  pub undoes : undo_bytes scottish h f ≡ undo_text h f steps before r.steps r.end

-- what a file that is taken leaves, or why it is refused
abbrev pub Tries : List ℕ → List ℕ → List ℕ → List ℕ → List ℕ → ℕ → Result Trial Refusal → Type 0
Tries h f places steps before room (Ok r) = Taken h f places steps before room r
Tries h f places steps before room (Err r) = tried scottish room h f ≡ refused (refusal_meant r)
