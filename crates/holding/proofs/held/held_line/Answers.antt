-- `holding::held::held_line` meets its contract.
use Rattle.holding.proofs.HeldLaws.{holds, held_ended}
use Rattle.holding.proofs.held.held_line.Goals as goal

pub returns-then-not-ended : goal.returns-then-not-ended
returns-then-not-ended c = search holds

pub returns-in_err-kind : goal.returns-in_err-kind
returns-in_err-kind c = search holds

pub returns : goal.returns
returns c = held_ended _ _ _ _ _ c.kind_at.ensures c.if-not-ended.false _ c.in_ok-kind.was _ c.passes.ensures c.then_some.ensures
