-- `holding::held::passes_noted` meets its contract.
use Rattle.holding.proofs.HeldLaws.{notes}
use Rattle.holding.proofs.held.passes_noted.Goals as goal
use Rattle.holding.proofs.held.passes_noted.Goals.{then-is_held, else-is_held, then-dates_agree, else-dates_agree}

pub noted_field-requires : goal.noted_field-requires
noted_field-requires c = search notes

pub noted_field-requires-then-is_same : goal.noted_field-requires-then-is_same
noted_field-requires-then-is_same c = search notes

pub is_running-requires : goal.is_running-requires
is_running-requires c = search notes

pub returns-then-is_same : goal.returns-then-is_same
returns-then-is_same c = λ h. elim c.if-dates_agree.branch [ then-dates_agree w ↦ elim c.if-is_held.branch [ then-is_held v ↦ search notes | else-is_held v ↦ search notes ] | else-dates_agree w ↦ search notes ]
