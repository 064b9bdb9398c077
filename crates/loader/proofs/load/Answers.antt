-- `loader::load` meets its contract.
use borrow.Author.Rules.{rules}
use Rattle.loader.proofs.LoadLaws.{load_refused_is}
use Rattle.loader.proofs.load.Goals as goal

pub returns-then-is_err : goal.returns-then-is_err
returns-then-is_err c = load_refused_is _ _ _ _ _ _ _ c.take-taken.ensures _ _ (search rules) c.clear.ensures.0 c.clear.ensures.1
