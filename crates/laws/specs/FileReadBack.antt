-- Files, written and read back: a frame that suits its body, around changes to fine records, is read as written, and what is read is such a file.
use Rattle.std.specs.Prelude.{Bool, false, ◌&&◌, ℕ, leb}
use Rattle.theory.specs.Step.{Change}
use Rattle.meaning.specs.Kinds.{Role, header_line, metadata_line, trailer_line, role}
use Rattle.meaning.specs.Format.{Format}
use Rattle.meaning.specs.Records.{Rec}
use Rattle.meaning.specs.File.{Judged, bad, good, judge_line, Frame, at_start, in_body, after_metadata, most_body}
use Rattle.laws.specs.Kinds.{is_role}
use Rattle.laws.specs.LinesAndFields.{ends}
use Rattle.laws.specs.Body.{fine}

-- ---- frames

-- a line is accepted, and has that role
unfoldable pub accepted : Role → Judged → Bool
accepted o (bad f) = false
accepted o (good k q) = is_role o (role k)

module _ (F : Format) where
  -- the frame is sound around n body lines
  unfoldable pub suits : Frame → ℕ → Bool
  suits fr n =
      leb n most_body
      && (accepted header_line (judge_line F at_start 0 (ends fr.header_text))
      && (accepted metadata_line (judge_line F in_body n (ends fr.metadata_text))
      && accepted trailer_line (judge_line F after_metadata n (ends fr.trailer_text))))

  -- ---- what is written is read back

  -- a change to a fine record
  abbrev pub fine_c : Change Rec → Bool
  fine_c c = fine F c.rec
