-- `in_force::naming::said` meets its contract.
use mathlib.Core.Logic.{inl, inr}
use Rattle.in_force.proofs.NamingLaws.{saying, said_insert, said_update}
use Rattle.in_force.proofs.naming.said.Goals as goal

pub returns-in-Insert : goal.returns-in-Insert
returns-in-Insert c = elim c.in-Insert.is [ inl e ↦ said_insert _ _ e | inr e ↦ said_update _ _ e ]

pub returns-in-Delete : goal.returns-in-Delete
returns-in-Delete c = search saying
