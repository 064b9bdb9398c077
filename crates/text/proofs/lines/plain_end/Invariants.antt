-- What lasts from turn to turn of the loop of `text::lines::plain_end`.
use Rattle.std.proofs.Common.{◌≡◌, ◌+◌}
use Rattle.text.specs.Places.{plain_end}
use Rattle.text.proofs.lines.plain_end.Given as goal

abbrev pub invariant-loop-i : goal.invariant-loop-i
invariant-loop-i l = plain_end l.s (l.at + l.i) ≡ plain_end l.s l.at
