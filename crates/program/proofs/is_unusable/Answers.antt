-- `program::is_unusable` meets its contract.
use Rattle.meaning.specs.Program.{unusable}
use Rattle.program.proofs.is_unusable.Goals as goal

pub returns-in-Some : goal.returns-in-Some
unfolding unusable
returns-in-Some c = rw c.in-Some.is

pub returns-in-None : goal.returns-in-None
unfolding unusable
returns-in-None c = rw c.in-None.is
