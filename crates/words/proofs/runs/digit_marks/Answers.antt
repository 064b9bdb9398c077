-- `words::runs::digit_marks` meets its contract.
use Rattle.words.proofs.LaneLaws.{eight, digits_eight}
use Rattle.words.proofs.runs.digit_marks.Goals as goal

pub returns : goal.returns
returns c = let w = c.word_at.ensures in digits_eight _ _ _ (eight _ _ c.requires) w.1 w.0 c.marked.ensures
