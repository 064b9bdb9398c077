-- `form::codes::holds` meets its contract.
use mathlib.Core.Path.{◌∙◌}
use Rattle.form.proofs.CodeLaws.{among_any}
use Rattle.form.proofs.codes.holds.Goals as goal

pub returns : goal.returns
returns c = c.contains.ensures.value ∙ among_any c.args.b c.args.codes.now
