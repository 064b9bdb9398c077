-- `text::put::zeros` meets its contract.
use Rattle.std.proofs.Common.{◌∙◌, length}
use Rattle.text.proofs.PutLaws.{zeros_replicate}
use Rattle.text.proofs.put.zeros.Goals as goal

pub returns : goal.returns
returns c = c.fill.ensures.after (λ y h. h) ∙ zeros_replicate (length c.args.out.now)
