-- `text::fields::note` meets its contract.
use mathlib.Core.Path.{sym}
use lib.Seq.{set_out}
use Rattle.text.proofs.fields.note.Goals as goal

pub returns-else-k-ends : goal.returns-else-k-ends
returns-else-k-ends c = sym (set_out _ _ _ c.if-k-ends.false)
