-- `find::held_line` meets its contract.
use mathlib.Core.Path.{sym, ap, ◌∙◌}
use Rattle.enquiries.proofs.HandLaws.{unplaced_none}
use Rattle.find.proofs.FindLaws.{held, held_absent, held_in, held_there}
use Rattle.find.proofs.held_line.Goals as goal

pub line_of-requires : goal.line_of-requires
line_of-requires c = search held

pub returns-in_err-line : goal.returns-in_err-line
returns-in_err-line c = (
  held_absent _ _ _ _ _ _ c.requires _ c.asked_key.ensures _ c.line_of.ensures _ _ c.ok_or.ensures.value c.alone.ensures _ c.in_err-line.was _ c.from_residual.ensures.1,
  unplaced_none _ _ (ap (λ m. m.place) c.alone.ensures) _ (sym c.ok_or.ensures.value ∙ c.in_err-line.was) _ c.from_residual.ensures.1,
)

pub line_found-requires : goal.line_found-requires
line_found-requires c = held_in _ _ _ _ _ _ c.requires _ c.asked_key.ensures _ c.line_of.ensures _ _ c.ok_or.ensures.value _ c.in_ok-line.was

pub returns : goal.returns
returns c = (c.line_found.ensures ∙ held_there _ _ _ _ _ _ c.requires _ c.asked_key.ensures _ c.line_of.ensures _ _ c.ok_or.ensures.value _ c.in_ok-line.was, tt)
