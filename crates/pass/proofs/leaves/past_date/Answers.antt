-- `pass::leaves::past_date` meets its contract.
use native.Mathlib.Omega.{arith}
use Rattle.meaning.specs.Forms.{date, has_form, by_characters}
use Rattle.pass.proofs.LeafLaws.{past_some}
use Rattle.pass.proofs.leaves.past_date.Goals as goal

pub returns : goal.returns
unfolding has_form
returns c = past_some (has_form by_characters date) c.args.s.now c.args.at 10 _ _ (omega arith) c.is_usual_date.ensures c.then_some.ensures
