-- `places::counts::note_tagged` meets its contract.
use Rattle.places.proofs.NoteLaws.{notetag}
use Rattle.places.proofs.counts.note_tagged.Goals as goal

pub bounds-counts-i : goal.bounds-counts-i
bounds-counts-i c = search notetag

pub moved-requires : goal.moved-requires
moved-requires c = search notetag

pub bounds-counts-i-2 : goal.bounds-counts-i-2
bounds-counts-i-2 c = search notetag

pub returns-then-to-eq-NO_TAG : goal.returns-then-to-eq-NO_TAG
returns-then-to-eq-NO_TAG c = search notetag

pub returns-then-to-own : goal.returns-then-to-own
returns-then-to-own c = search notetag

pub returns-then-not-stands_tagged : goal.returns-then-not-stands_tagged
returns-then-not-stands_tagged c = search notetag

pub returns : goal.returns
returns c = search notetag
