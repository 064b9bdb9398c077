-- `in_force::line_in_force` meets its contract.
use mathlib.Core.Path.{ap, ◌∙◌}
use mathlib.Core.List.{[]}
use Rattle.enquiries.proofs.HandLaws.{refused_on, unplaced_on}
use Rattle.find.proofs.FindLaws.{opened_other, unopened_unplaced, open_refused, open_found}
use Rattle.in_force.proofs.ForceLaws.{force_unopened, force_refused, force_file, faultless}
use Rattle.in_force.proofs.line_in_force.Goals as goal

pub returns-then-not-is_enquired : goal.returns-then-not-is_enquired
returns-then-not-is_enquired c = (force_unopened _ _ _ _ _ (opened_other _ [] [] _ _ c.is_enquired.ensures c.if-not-is_enquired.true _ c.alone.ensures), ap (λ m. m.place) c.alone.ensures)

pub returns-in_err-count : goal.returns-in_err-count
returns-in_err-count c =
    let w = open_refused _ _ _ _ _ _ c.open_holding.ensures c.in_err-count.was in
    (refused_on _ _ c.from_residual.ensures.1 ∙ force_unopened _ _ _ _ _ w, unplaced_on _ _ c.from_residual.ensures.1 (unopened_unplaced _ _ _ w))

pub returns-in_err-map_err : goal.returns-in_err-map_err
returns-in_err-map_err c =
    let w = force_refused _ _ _ _ _ _ _ (open_found _ _ _ _ _ _ c.open_holding.ensures c.in_ok-count.was) _ c.check_file.ensures _ c.map_err.ensures.cases _ c.in_err-map_err.was in
    (refused_on _ _ c.from_residual-in_err-map_err.ensures.1 ∙ w.0, unplaced_on _ _ c.from_residual-in_err-map_err.ensures.1 w.1)

pub last_line-requires : goal.last_line-requires
last_line-requires c = let w = open_found _ _ _ _ _ _ c.open_holding.ensures c.in_ok-count.was in (w, faultless _ _ _ c.check_file.ensures c.map_err.ensures.cases _ c.in_ok-map_err.was)

pub returns : goal.returns
returns c = (c.last_line.ensures.0 ∙ force_file _ _ _ _ _ _ _ (open_found _ _ _ _ _ _ c.open_holding.ensures c.in_ok-count.was), c.last_line.ensures.1)
