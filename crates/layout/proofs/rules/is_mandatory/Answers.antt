-- `layout::rules::is_mandatory` meets its contract.
use Rattle.base.proofs.Answers.{tests}
use Rattle.layout.specs.Rows.{filled_decoded}
use Rattle.layout.proofs.rules.is_mandatory.Goals as goal

pub returns : goal.returns
unfolding filled_decoded
returns c = search tests
