-- What lasts from turn to turn of the loop of `text::lines::line_end`.
use Rattle.std.proofs.Common.{◌≡◌, ◌+◌}
use Rattle.text.specs.Places.{line_end}
use Rattle.text.proofs.lines.line_end.Given as goal

abbrev pub invariant-loop-i : goal.invariant-loop-i
invariant-loop-i l = line_end l.s (l.at + l.i) ≡ line_end l.s l.at
