-- `layout::check::dates_in_order` meets its contract.
use Rattle.layout.proofs.CheckLaws.{dates}
use Rattle.layout.proofs.check.dates_in_order.Goals as goal

pub returns-then-is_empty : goal.returns-then-is_empty
returns-then-is_empty c = search dates

pub returns-else-is_empty : goal.returns-else-is_empty
returns-else-is_empty c = search dates
