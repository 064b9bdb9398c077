-- `holding::scan::next_line` meets its contract.
use Rattle.holding.proofs.ScanLaws.{nexts, passed_taken}
use Rattle.holding.proofs.scan.next_line.Goals as goal

pub returns-then-most_lines-line : goal.returns-then-most_lines-line
returns-then-most_lines-line c = search nexts

pub returns-in-Some : goal.returns-in-Some
returns-in-Some c = (c.pass_kind.ensures.0, passed_taken _ _ _ _ c.pass_kind.ensures.1 c.in-Some.field-0.kind c.in-Some.field-0.end c.in-Some.is _ _ c.passes_noted.ensures c.if-passes_noted.true _ c.most_lines.ensures c.if-most_lines-line.false _ c.key_noted-key.ensures _ c.starts_noted-noted.ensures _ _ c.in_order.ensures)
