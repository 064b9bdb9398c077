-- `holding::scan::next_judged` meets its contract.
use Rattle.holding.proofs.ScanLaws.{judges, judged_taken}
use Rattle.holding.proofs.scan.next_judged.Goals as goal

pub returns-in_err-kind : goal.returns-in_err-kind
returns-in_err-kind c = search judges

pub returns : goal.returns
returns c = judged_taken _ _ _ _ c.plain_end-end.ensures.0 _ c.ends_at.ensures _ c.held_line.ensures _ c.in_ok-kind.was _ _ c.content_at.ensures.0 _ c.key_at-key.ensures c.requires.1 _ c.in_order.ensures
