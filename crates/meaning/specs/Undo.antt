-- Paper 01, 'The undo': the file that takes a file back. How one step is taken back stands in theory's Step, and a run of steps in its Trail.
use Rattle.std.specs.Prelude.{List, [], ℕ}
use Rattle.theory.specs.Step.{Change, after, back}
use Rattle.theory.specs.Trail.{undo}
use Rattle.theory.specs.Answer.{fault, file}
use Rattle.meaning.specs.Format.{Format}
use Rattle.meaning.specs.Answers.{Read}
use Rattle.meaning.specs.Records.{Rec, keyed}
use Rattle.meaning.specs.File.{Sheet, read_file, write_file}
use Rattle.meaning.specs.Holding.{Held, sound, unsound, read_holding}

module _ (F : Format) where
  -- the body takes the steps backwards: an insert becomes a delete with the inserted content, an update an update with the content it replaced, a delete an insert with the content removed
  abbrev pub undo_body : List Rec → List (Change Rec) → List (Change Rec)
  undo_body = undo (after (keyed F)) (back (keyed F))

  -- header, metadata and trailer are copied byte for byte, the body numbered 1 upwards
  unfoldable pub undo_sheet : List Rec → Read Sheet → List ℕ
  undo_sheet st (fault r) = []
  undo_sheet st (file s) = write_file s.0 (undo_body st s.1)

  -- the undo over a sound holding
  unfoldable pub undo_held : List ℕ → Held → List ℕ
  undo_held b (unsound n) = []
  undo_held b (sound st) = undo_sheet st (read_file F b)

  -- the undo of a file over a holding, as bytes
  unfoldable pub undo_bytes : List ℕ → List ℕ → List ℕ
  undo_bytes old b = undo_held b (read_holding F old)
