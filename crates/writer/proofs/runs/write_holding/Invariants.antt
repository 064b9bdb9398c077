-- What lasts from turn to turn of the loop of `writer::runs::write_holding`.
use Rattle.writer.proofs.RunLaws.{Writing}
use Rattle.theory.specs.Run.{as_inserts}
use Rattle.places.specs.Places.{says}
use Rattle.writer.proofs.runs.write_holding.Given as goal

abbrev pub invariant-loop-i : goal.invariant-loop-i
invariant-loop-i l = Writing (as_inserts (says l.holding l.file l.places l.count)) l.initial.out l.out l.pos l.i
