-- `holding::scan::in_order` meets its contract.
use Rattle.holding.proofs.ScanLaws.{orders}
use Rattle.holding.proofs.scan.in_order.Goals as goal

pub returns : goal.returns
returns c = search orders
