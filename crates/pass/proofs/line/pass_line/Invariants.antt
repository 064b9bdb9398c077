-- What lasts from turn to turn of the loop of `pass::line::pass_line`.
use mathlib.Core.Path.{◌≡◌}
use mathlib.Core.List.{map}
use lib.ListN.{length}
use Rattle.layout.specs.Rows.{decoded}
use Rattle.pass.proofs.LineLaws.{Walked}
use Rattle.pass.proofs.line.pass_line.Given as goal

abbrev pub invariant-loop-k : goal.invariant-loop-k
invariant-loop-k l = Walked (map decoded l.rows) l.s l.ends l.at l.k l.start × (length l.ends ≡ length l.initial.ends)
