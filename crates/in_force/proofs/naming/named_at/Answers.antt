-- `in_force::naming::named_at` meets its contract.
use Rattle.in_force.proofs.NamingLaws.{naming}
use Rattle.in_force.proofs.naming.named_at.Goals as goal

pub returns-then-not-is_same_key : goal.returns-then-not-is_same_key
returns-then-not-is_same_key c = search naming

pub returns : goal.returns
returns c = search naming
