-- `pass::leaves::past_change_type` meets its contract.
use borrow.Author.Rules.{rules}
use mathlib.Core.Path.{refl}
use native.Mathlib.Omega.{arith}
use Rattle.pass.proofs.LeafLaws.{change_seen}
use Rattle.pass.proofs.leaves.past_change_type.Goals as goal

pub returns-in-34 : goal.returns-in-34
returns-in-34 c = change_seen c.args.s.now c.args.at _ (omega arith) (omega arith) refl (search rules) (omega arith)
