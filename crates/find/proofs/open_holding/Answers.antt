-- `find::open_holding` meets its contract.
use Rattle.find.proofs.FindLaws.{opens, opened}
use borrow.Author.Rules.{rules}
use Rattle.find.proofs.open_holding.Goals as goal

pub returns-then-not-is_enquired : goal.returns-then-not-is_enquired
returns-then-not-is_enquired c = search opens

pub returns : goal.returns
returns c = opened _ _ _ _ _ c.is_enquired.ensures c.if-not-is_enquired.false _ _ c.read_holding.ensures _ c.map_err.ensures.cases (search rules)
