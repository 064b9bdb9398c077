-- `loader::fill::fill_undo` meets its contract.
use borrow.Author.Rules.{rules}
use Rattle.loader.proofs.FillLaws.{fill_all}
use Rattle.loader.proofs.fill.fill_undo.Goals as goal

pub returns : goal.returns
returns c = fill_all _ _ _ _ (rw c.in-Some.is at c.put_undo.ensures) _ (search rules) c.zeros.ensures
