-- `pass::field::may_be_none` meets its contract.
use borrow.Author.Rules.{rules}
use Rattle.pass.proofs.LeafLaws.{none_sound}
use Rattle.pass.proofs.field.may_be_none.Goals as goal

pub returns-then-not-is_mandatory : goal.returns-then-not-is_mandatory
returns-then-not-is_mandatory c = λ e. none_sound _ _ _ _ c.is_mandatory.ensures (search rules) c.form_of.ensures c.is_textual.ensures e
