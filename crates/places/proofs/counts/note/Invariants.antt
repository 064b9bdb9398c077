-- What lasts from turn to turn of the loop of `places::counts::note`.
use lib.ListN.{drop}
use Rattle.keys.specs.Numbers.{key_list}
use Rattle.entries.specs.Entries.{record_of}
use Rattle.places.specs.Places.{says}
use Rattle.places.proofs.NoteLaws.{Left}
use Rattle.places.proofs.counts.note.Given as goal

abbrev pub invariant-loop-key : goal.invariant-loop-key
invariant-loop-key l = Left l.up (says l.holding l.file l.places l.count) (record_of l.holding l.file l.entry) (key_list l.own) l.initial.counts (drop l.key-index l.key-items) l.counts
