-- The body of a file, line by line, and how the run of its changes ends.
use Rattle.std.specs.Prelude as std
use Rattle.std.specs.Prelude.{◌≡◌, Bool, true, false, List, [], ◌∷◌, ℕ, ◌+◌, ◌≤◌, ltb, length, get_or, drop, Result, Ok, Err, Some, None}
use Rattle.std.proofs.Math.Option.{Option, none, some}
use Rattle.base.specs.Lists.{pick, keep_if}
use Rattle.theory.specs.Step.{Change}
use Rattle.theory.specs.Answer.{fault, file}
use Rattle.theory.specs.Run.{Out, done, stop}
use Rattle.meaning.specs.Lines.{Line, lines_of, fields_of}
use Rattle.meaning.specs.Kinds.{Kind, role}
use Rattle.meaning.specs.Table.{scottish}
use Rattle.meaning.specs.Records.{Rec, op_of}
use Rattle.meaning.specs.Holding.{is_held}
use Rattle.meaning.specs.File.{Sheet, read_file, most_body}
use Rattle.meaning.specs.Answers.{Read, of_line, at_line}
use Rattle.meaning.specs.Steps.{run_steps}
use Rattle.meaning.specs.Undo.{undo_body}
use Rattle.answers.specs.Codes.{code_number}
use Rattle.answers.specs.Meant.{refusal_meant}
use Rattle.answers.specs.declared.refusal.Refusal.{Refusal}
use Rattle.layout.specs.declared.kinds.HeldKind.{HeldKind}
use Rattle.layout.specs.Meant.{held_meant}
use Rattle.entries.specs.Entries.{rec_of, line_at}
use Rattle.places.specs.Places.{says}
use Rattle.places.specs.Changes.{change, steps_back}
use Rattle.judge.specs.declared.State.{State}
use Rattle.judge.specs.Ready.{Ready}
use Rattle.steps.specs.declared.run.Ran.{Ran}

-- what was read is a sound file
abbrev pub is_file : Read Sheet → Bool
is_file (fault r) = false
is_file (file s) = true

-- its changes
abbrev pub changes_of : Read Sheet → List (Change Rec)
changes_of (fault r) = []
changes_of (file s) = s.1

-- the changes of the body lines from here up to the metadata
unfoldable pub body_from : List Line → List (Change Rec)
body_from [] = []
body_from (l ∷ ls) = pick (is_held (role (rec_of l.text).kind)) (change (op_of (get_or (fields_of l.text) 1 [])) (rec_of l.text) ∷ body_from ls) []

-- the kind of the body line at an offset, if one stands there
unfoldable pub body_kind : List ℕ → ℕ → Option Kind
body_kind f at = pick (ltb at (length f)) (keep_if (is_held (role (rec_of (line_at f at)).kind)) (rec_of (line_at f at)).kind) none

-- as code has it
abbrev pub body_meant : std.Option HeldKind → Option Kind
body_meant (Some k) = some (held_meant k)
body_meant None = none

-- how a run ended: with the state that the array says, or at a line with a code
abbrev pub ran_as : List ℕ → List ℕ → List ℕ → Result Ran Refusal → Out (List Rec)
ran_as h f b (Ok r) = done (says h f b r.state.count)
ran_as h f b (Err w) = stop w.line (code_number w.code)

-- the entries of the steps that were made say how they are taken back, and from `end` on stands what follows the body
pub record Kept (h f a steps before : List ℕ) (s : State) (r : Ran) : Type 0 where
  pub few : r.steps ≤ most_body
  pub backed : steps_back h f steps before r.steps ≡ undo_body scottish (says h f a s.count) (changes_of (read_file scottish f))
  pub rest : lines_of (drop r.end f) ≡ drop (r.steps + 1) (lines_of f)

-- the run ends as the run of the file's changes from line 2 on does, and where nothing is refused it leaves a state that is ready for more, and what its undo needs
pub record Runs (h f a b g t steps before : List ℕ) (room : ℕ) (s : State) (r : Result Ran Refusal) : Type 0 where
  pub ended : ran_as h f b r ≡ run_steps scottish room (says h f a s.count) (changes_of (read_file scottish f))
  pub refused : (w : Refusal) → r ≡ Err w → refusal_meant w ≡ at_line w.line (of_line (code_number w.code))
  pub ready : (n : Ran) → r ≡ Ok n → Ready h f b g t room n.state
  pub kept : (n : Ran) → r ≡ Ok n → Kept h f a steps before s n
