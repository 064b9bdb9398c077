-- What lasts from turn to turn of the loop of `writer::runs::write_back`.
use Rattle.places.specs.Changes.{steps_back}
use Rattle.writer.proofs.RunLaws.{Writing}
use Prim.Native.Nat.{◌≤◌}
use Rattle.writer.proofs.runs.write_back.Given as goal

abbrev pub invariant-loop-done : goal.invariant-loop-done
invariant-loop-done l = Writing (steps_back l.holding l.file l.steps l.before l.count) l.initial.out l.out l.pos l.done × (l.pos ≤ l.room)
