-- What lasts from turn to turn of the loop of `places::counts::note_tags`.
use mathlib.Core.List.{map}
use mathlib.Core.Bool.{true}
use lib.ListN.{drop}
use Rattle.keys.specs.Numbers.{key_numbers}
use Rattle.entries.specs.Entries.{record_of}
use Rattle.entries.specs.Tags.{ref_tagged}
use Rattle.places.specs.Places.{says}
use Rattle.places.proofs.NoteLaws.{Left}
use Rattle.places.proofs.counts.note_tags.Given as goal

abbrev pub invariant-loop-tag : goal.invariant-loop-tag
invariant-loop-tag l = Left true (says l.holding l.file l.places l.count) (record_of l.holding l.file l.entry) (key_numbers (record_of l.holding l.file l.entry)) l.initial.counts (drop l.tag-index (map ref_tagged l.tag-items)) l.counts
