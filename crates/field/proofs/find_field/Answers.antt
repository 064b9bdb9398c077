-- `field::find_field` meets its contract.
use mathlib.Core.Path.{sym, ap, ◌∙◌}
use Rattle.enquiries.proofs.HandLaws.{unplaced_none}
use Rattle.field.proofs.FieldPartLaws.{fieldfound}
use Rattle.field.proofs.find_field.Goals as goal

pub returns-in_err-l : goal.returns-in_err-l
returns-in_err-l c = (search fieldfound, unplaced_none _ _ (ap (λ m. m.place) c.alone-none.ensures) _ (sym c.ok_or.ensures.value ∙ c.in_err-l.was) _ c.from_residual.ensures.1)

pub returns-in_err-f : goal.returns-in_err-f
returns-in_err-f c = (search fieldfound, unplaced_none _ _ (ap (λ m. m.place) c.alone-none.ensures) _ (sym c.ok_or-2.ensures.value ∙ c.in_err-f.was) _ c.from_residual-in_err-f.ensures.1)

pub returns : goal.returns
returns c = (search fieldfound, tt)
