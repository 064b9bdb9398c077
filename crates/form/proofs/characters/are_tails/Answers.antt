-- `form::characters::are_tails` meets its contract.
use Rattle.std.proofs.Common.{rules}
use borrow.Author.Tests.{tests}
use Rattle.base.proofs.StdLists.{all_of_slice}
use Rattle.meaning.specs.Characters.{is_in, tail}
use Rattle.form.proofs.characters.are_tails.Goals as goal

pub returns : goal.returns
returns c = all_of_slice (is_in tail) c.args.t.now _ _ c.all.ensures.ran (cc) (λ x b q k. search (rules, tests))
