-- `words::runs::ascii_marks` meets its contract.
use Rattle.words.proofs.LaneLaws.{eight, ascii_eight}
use Rattle.words.proofs.runs.ascii_marks.Goals as goal

pub returns : goal.returns
returns c = let w = c.word_at.ensures in ascii_eight _ _ _ (eight _ _ c.requires) w.1 w.0 c.unlike_ascii.ensures
