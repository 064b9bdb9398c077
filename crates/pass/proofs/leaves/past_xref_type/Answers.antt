-- `pass::leaves::past_xref_type` meets its contract.
use mathlib.Core.Path.{refl}
use native.Mathlib.Omega.{arith}
use Rattle.base.specs.Lists.{same, bytes}
use Rattle.meaning.specs.Forms.{xref_type, one_of, has_form, by_characters}
use Rattle.pass.proofs.LeafLaws.{either_seen}
use Rattle.pass.proofs.leaves.past_xref_type.Goals as goal

pub returns-in-49 : goal.returns-in-49
unfolding has_form one_of same bytes
returns-in-49 c = either_seen (has_form by_characters xref_type) c.args.s.now c.args.at 49 (omega arith) (omega arith) (omega arith) refl refl
