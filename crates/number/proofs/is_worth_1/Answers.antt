-- `number::is_worth_1` meets its contract.
use Rattle.std.proofs.Common.{rules}
use borrow.Author.Tests.{tests}
use lib.Dec.{ltb}
use mathlib.Core.Path.{◌∙◌}
use Rattle.base.proofs.StdLists.{any_of_slice}
use Rattle.number.proofs.NumberLaws.{worth_any}
use Rattle.number.proofs.is_worth_1.Goals as goal

pub returns : goal.returns
returns c = any_of_slice (ltb 48) c.args.f.now _ _ c.any.ensures.ran (cc) (λ x b q k. search (rules, tests)) ∙ worth_any c.args.f.now
