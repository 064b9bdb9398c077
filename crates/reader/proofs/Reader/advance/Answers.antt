-- `reader::Reader::advance` meets its contract.
use Rattle.std.proofs.Common.{refl, ◌∙◌}
use Rattle.reader.proofs.ReaderLaws.{past, next_more, next_last}
use Rattle.reader.proofs.Reader.advance.Goals.{then-end-size, else-end-size}
use Rattle.reader.proofs.Reader.advance.Goals as goal

pub returns-then-size-self : goal.returns-then-size-self
returns-then-size-self c = search past

pub returns : goal.returns
returns c = elim c.if-end-size.branch [
  | then-end-size w ↦ (refl, w.self-is ∙ next_more _ _ _ c.if-size-self.false c.line_end-end.ensures.0 w.if-end-size.true)
  | else-end-size w ↦ (refl, w.self-is ∙ next_last _ _ _ c.if-size-self.false c.line_end-end.ensures.0 w.if-end-size.false)
]
