-- `in_force::naming::later` meets its contract.
use mathlib.Core.Logic.{inl, inr}
use Rattle.in_force.proofs.NamingLaws.{latest, later_deleted, later_named}
use Rattle.in_force.proofs.naming.later.Goals as goal

pub returns-in-Unnamed : goal.returns-in-Unnamed
returns-in-Unnamed c = search latest

pub returns-in-Deleted : goal.returns-in-Deleted
returns-in-Deleted c = elim c.in-Deleted.is [ inl e ↦ later_deleted _ _ e | inr e ↦ later_named _ _ e.0 e.1 ]
