-- `places::counts::note_one` meets its contract.
use Rattle.places.proofs.NoteLaws.{noteone}
use Rattle.places.proofs.counts.note_one.Goals as goal

pub bounds-counts-i : goal.bounds-counts-i
bounds-counts-i c = search noteone

pub moved-requires : goal.moved-requires
moved-requires c = search noteone

pub bounds-counts-i-2 : goal.bounds-counts-i-2
bounds-counts-i-2 c = search noteone

pub returns-in_default : goal.returns-in_default
returns-in_default c = search noteone

pub returns-then-is_same_key : goal.returns-then-is_same_key
returns-then-is_same_key c = search noteone

pub returns-then-not-stands : goal.returns-then-not-stands
returns-then-not-stands c = search noteone

pub returns : goal.returns
returns c = search noteone
