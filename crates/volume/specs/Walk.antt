-- The walk of a file's lines: what is counted so far, and what is answered of the lines that are left.
use Rattle.std.specs.Prelude.{List, ℕ, suc, ◌+◌, ◌≤◌}
use Rattle.theory.specs.Step.{Op, ins, upd, del}
use Rattle.theory.specs.Answer.{fault, file, is_op, count}
use Rattle.meaning.specs.Lines as meant
use Rattle.meaning.specs.Kinds.{Role, header_line, body_line, metadata_line, trailer_line}
use Rattle.meaning.specs.Table.{scottish}
use Rattle.meaning.specs.File.{Sheet, body_after, read_from}
use Rattle.meaning.specs.Answers.{Read, Numbers, taken_with, refused_with}
use Rattle.volume.specs.declared.stages.Stage.{Stage}
use Rattle.volume.specs.declared.stages.Stage.TheVariants.{AtStart}
use Rattle.volume.specs.declared.walk.Walk.{Walk}
use Rattle.volume.specs.Meant.{stage_meant}

-- before the first line
abbrev pub unwalked : Walk
unwalked = record { stage = AtStart; line = 1; body = 0; inserts = 0; updates = 0; deletes = 0 }

-- 1 for a body line with that operation, else 0
unfoldable pub tally : Role → Op → Op → ℕ
tally header_line o c = 0
tally body_line o c = is_op o c
tally metadata_line o c = 0
tally trailer_line o c = 0

-- the walk with one body line more, with a change
unfoldable pub counted_in : Walk → Op → Walk
counted_in w c = record {
  stage = w.stage;
  line = w.line;
  body = suc w.body;
  inserts = w.inserts + is_op ins c;
  updates = w.updates + is_op upd c;
  deletes = w.deletes + is_op del c;
}

-- the walk after a line of a role, with a change, before a stage
unfoldable pub walked_on : Walk → Role → Op → Stage → Walk
walked_on w r c p = record {
  stage = p;
  line = suc w.line;
  body = body_after r w.body;
  inserts = w.inserts + tally r ins c;
  updates = w.updates + tally r upd c;
  deletes = w.deletes + tally r del c;
}

-- the numbers of the check, where I, U and D lines are counted already
unfoldable pub checked_from : Walk → Read Sheet → Numbers
checked_from w (fault r) = refused_with r
checked_from w (file s) = taken_with (record { inserts = w.inserts + count ins s.1; updates = w.updates + count upd s.1; deletes = w.deletes + count del s.1 })

-- what the walk answers of the lines that are left
unfoldable pub left_of : Walk → List meant.Line → Numbers
left_of w ls = checked_from w (read_from scottish w.line (stage_meant w.stage) w.body ls)

-- no number of the walk has passed the bytes before n
pub record Within (w : Walk) (n : ℕ) : Type 0 where
  pub lines : w.line ≤ n + 1
  pub bodies : w.body ≤ n
  pub inserts_in : w.inserts ≤ n
  pub updates_in : w.updates ≤ n
  pub deletes_in : w.deletes ≤ n
