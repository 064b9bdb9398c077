-- `find::find_line` meets its contract.
use mathlib.Core.Path.{ap, ◌∙◌}
use mathlib.Core.List.{[]}
use Rattle.enquiries.proofs.HandLaws.{refused_on, unplaced_on}
use Rattle.find.proofs.FindLaws.{opened_other, find_unopened, unopened_unplaced, open_refused, open_found, find_held}
use Rattle.find.proofs.find_line.Goals as goal

pub returns-then-not-is_enquired : goal.returns-then-not-is_enquired
returns-then-not-is_enquired c = (find_unopened _ _ _ _ (opened_other _ [] [] _ _ c.is_enquired.ensures c.if-not-is_enquired.true _ c.alone.ensures), ap (λ m. m.place) c.alone.ensures)

pub returns-in_err-count : goal.returns-in_err-count
returns-in_err-count c =
    let w = open_refused _ _ _ _ _ _ c.open_holding.ensures c.in_err-count.was in
    (refused_on _ _ c.from_residual.ensures.1 ∙ find_unopened _ _ _ _ w, unplaced_on _ _ c.from_residual.ensures.1 (unopened_unplaced _ _ _ w))

pub held_line-requires : goal.held_line-requires
held_line-requires c = open_found _ _ _ _ _ _ c.open_holding.ensures c.in_ok-count.was

pub returns : goal.returns
returns c = (c.held_line.ensures.0 ∙ find_held _ _ _ _ _ _ (open_found _ _ _ _ _ _ c.open_holding.ensures c.in_ok-count.was), c.held_line.ensures.1)
