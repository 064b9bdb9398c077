-- `pass::leaves::past_time` meets its contract.
use native.Mathlib.Omega.{arith}
use Rattle.meaning.specs.Forms.{time, has_form, by_characters}
use Rattle.pass.proofs.LeafLaws.{past_tested}
use Rattle.pass.proofs.leaves.past_time.Goals as goal

pub returns : goal.returns
unfolding has_form
returns c = past_tested (has_form by_characters time) c.args.s.now c.args.at _ _ _ (omega arith) (omega arith) c.is_time.ensures c.then_some.ensures
