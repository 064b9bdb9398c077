-- `pass::leaves::past_characters` meets its contract.
use mathlib.Core.Path.{sym, ◌∙◌}
use Prim.Native.Nat.{◌+◌, ◌<◌}
use lib.ListN.{length}
use native.Mathlib.Omega.{arith}
use borrow.Author.Tests.{ltb-true}
use Rattle.meaning.specs.Forms.{text, has_form, by_characters}
use Rattle.pass.proofs.LeafLaws.{past_if, seen_tested}
use Rattle.pass.proofs.leaves.past_characters.Goals as goal
use Rattle.pass.proofs.leaves.past_characters.Goals.{then-end-s, else-end-s}

pub returns : goal.returns
unfolding has_form
returns c = past_if (has_form by_characters (text c.args.w)) c.args.s.now c.args.at _ _ _ c.then_some.ensures
    (λ t. elim c.if-end-s.branch [
      | then-end-s w ↦ seen_tested (has_form by_characters (text c.args.w)) c.args.s.now c.args.at _ _ (omega arith) (omega arith) w.is_text.ensures (sym w.then_some-is ∙ t)
      | else-end-s w ↦ absurd (let z : c.args.from + c.in_ok-last.field-0 + 1 < length c.args.s.now = ltb-true _ _ (sym w.then_some-is ∙ t) in omega (arith, w.if-end-s.false))
    ])
