-- `volume::lines::open_line` meets its contract.
use Rattle.volume.proofs.LineLaws.{opening}
use Rattle.volume.proofs.lines.open_line.Goals as goal

pub returns-then-not-ended : goal.returns-then-not-ended
returns-then-not-ended c = search opening

pub returns-in_default : goal.returns-in_default
returns-in_default c = search opening

pub returns-in_default-next_stage : goal.returns-in_default-next_stage
returns-in_default-next_stage c = search opening

pub returns-then-not-has_room : goal.returns-then-not-has_room
returns-then-not-has_room c = search opening

pub returns-then-fields-layout : goal.returns-then-fields-layout
returns-then-fields-layout c = search opening

pub returns : goal.returns
returns c = search opening
