-- What lasts from turn to turn of the loop of `shown::built::put_lines`.
use Rattle.std.proofs.Common.{◌≤◌, length}
use Rattle.shown.proofs.built.put_lines.Given as goal

abbrev pub invariant-loop-n : goal.invariant-loop-n
invariant-loop-n l = l.at ≤ length l.out
