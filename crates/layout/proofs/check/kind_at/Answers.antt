-- `layout::check::kind_at` meets its contract.
use Rattle.layout.proofs.KindLaws.{kindtold}
use Rattle.layout.proofs.check.kind_at.Goals as goal

pub returns : goal.returns
returns c = search kindtold
