-- `steps::run::body_kind` meets its contract.
use Rattle.steps.proofs.RunLaws.{kinding}
use Rattle.steps.proofs.run.body_kind.Goals as goal

pub returns-then-file-at : goal.returns-then-file-at
returns-then-file-at c = search kinding

pub returns-in-Held : goal.returns-in-Held
returns-in-Held c = search kinding

pub returns-in_default : goal.returns-in_default
returns-in_default c = search kinding
