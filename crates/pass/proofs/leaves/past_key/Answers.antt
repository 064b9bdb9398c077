-- `pass::leaves::past_key` meets its contract.
use native.Mathlib.Omega.{arith}
use Rattle.meaning.specs.Forms.{key_text, has_form, by_characters}
use Rattle.pass.proofs.LeafLaws.{past_tested}
use Rattle.pass.proofs.leaves.past_key.Goals as goal

pub returns : goal.returns
unfolding has_form
returns c = past_tested (has_form by_characters (key_text c.args.letter)) c.args.s.now c.args.at _ _ _ (omega arith) (omega arith) c.is_key.ensures c.then_some.ensures
