-- `in_force::in_force` meets its contract.
use Rattle.in_force.proofs.HandLaws.{force_fits, force_handed}
use Rattle.in_force.proofs.in_force.Goals as goal

pub hand-requires : goal.hand-requires
hand-requires c = force_fits _ _ c.side_of.ensures _ c.in-Holding.is _ _ _ _ c.line_in_force-found.ensures.0

pub hand-requires-in-File : goal.hand-requires-in-File
hand-requires-in-File c = force_fits _ _ c.side_of.ensures _ c.in-File.is _ _ _ _ c.line_in_force-found.ensures.0

pub returns-in-Holding : goal.returns-in-Holding
returns-in-Holding c = force_handed _ _ c.side_of.ensures _ c.in-Holding.is _ _ _ _ _ c.line_in_force-found.ensures.0 c.hand.ensures

pub returns-in-File : goal.returns-in-File
returns-in-File c = force_handed _ _ c.side_of.ensures _ c.in-File.is _ _ _ _ _ c.line_in_force-found.ensures.0 c.hand-in-File.ensures
