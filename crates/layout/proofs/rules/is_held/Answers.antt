-- `layout::rules::is_held` meets its contract.
use Rattle.layout.proofs.KindLaws.{roles}
use Rattle.layout.proofs.rules.is_held.Goals as goal

pub returns-in-Held : goal.returns-in-Held
returns-in-Held c = search roles

pub returns-in_default : goal.returns-in_default
returns-in_default c = search roles
