-- What is judged of a line before its fields (1, 2, 3, 9, 4), and after them (6, 7, 8). A law of proofs/ puts 5 between, and it is the meaning's judgement.
use Rattle.std.specs.Prelude.{Bool, List, ℕ, length, Result, Ok, Err}
use Rattle.std.proofs.Math.Option.{Option, none, some}
use Rattle.base.specs.Lists.{pick, ask}
use Rattle.meaning.specs.Lines.{identifier, fields_of, has_fields}
use Rattle.meaning.specs.Kinds.{Kind, role}
use Rattle.meaning.specs.Format.{kind_of, field_number, end_date}
use Rattle.meaning.specs.Table.{fields, scottish}
use Rattle.meaning.specs.File.{Stage, next, has_room, count_fault, Judged, bad, good, verdict}
use Rattle.meaning.specs.Answers.{Fault, of_line, of_field}
use Rattle.meaning.specs.Codes.{ending_wrong, identifier_unknown, out_of_place, field_count_wrong, end_before_start, too_many_body_lines}
use Rattle.answers.specs.declared.refusal.Fault as told
use Rattle.answers.specs.Meant.{fault_meant}
use Rattle.layout.specs.declared.kinds.Kind as named
use Rattle.layout.specs.Meant.{kind_meant}
use Rattle.layout.specs.Check.{kind_dates}
use Rattle.volume.specs.declared.stages.Stage as named-stage
use Rattle.volume.specs.Meant.{stage_meant}

-- then 3, then 9, then 4
unfoldable pub opens_at : ℕ → List ℕ → Kind → Option Stage → Judged
opens_at n t k none = bad (of_line out_of_place)
opens_at n t k (some q) = verdict (ask (has_room (role k) n) (of_line too_many_body_lines) (ask (has_fields (length (fields k)) t) (of_line field_count_wrong) none)) k q

-- then 2
unfoldable pub opens_as : Stage → ℕ → List ℕ → Option Kind → Judged
opens_as p n t none = bad (of_field identifier_unknown 1)
opens_as p n t (some k) = opens_at n t k (next p (role k))

-- a line before its fields are judged: 1 where it does not end well
unfoldable pub opens : Stage → ℕ → Bool → List ℕ → Judged
opens p n ended t = pick ended (opens_as p n t (kind_of scottish (identifier t))) (bad (of_line ending_wrong))

-- the stage after a line of a kind, where it may stand and there is room for it
unfoldable pub staged_as : Stage → ℕ → Kind → Option Stage
staged_as p n k = pick (has_room (role k) n) (next p (role k)) none

-- a line after its fields: 6, then 7 or 8
unfoldable pub closes : ℕ → Kind → List ℕ → Option Fault
closes n k t = ask (kind_dates k (fields_of t)) (of_field end_before_start (field_number 1 end_date (fields k))) (count_fault scottish (role k) n k t)

-- a line that was opened, as the meaning judges it: its kind and the stage after it, or a fault
abbrev pub judged_as : Result (named.Kind × named-stage.Stage) told.Fault → Judged
judged_as (Ok w) = good (kind_meant w.0) (stage_meant w.1)
judged_as (Err f) = bad (fault_meant f)
