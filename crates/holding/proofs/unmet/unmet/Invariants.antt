-- What lasts from turn to turn of the loop of `holding::unmet::unmet`.
use Rattle.holding.proofs.ReadLaws.{Counting}
use mathlib.Core.Path.{◌≡◌}
use lib.ListN.{length}
use Rattle.holding.proofs.unmet.unmet.Given as goal

abbrev pub invariant-loop-i : goal.invariant-loop-i
invariant-loop-i l = Counting l.holding l.starts l.count l.counts l.i × (length l.counts ≡ length l.initial.counts)
