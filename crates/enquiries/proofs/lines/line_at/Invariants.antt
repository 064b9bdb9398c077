-- What lasts from turn to turn of the loop of `enquiries::lines::line_at`, and what each turn makes smaller.
use Rattle.enquiries.proofs.LineSeekLaws.{Seeking}
use Prim.Native.Nat.{◌+◌, ◌-◌, ◌≤◌}
use lib.ListN.{length}
use Rattle.enquiries.proofs.lines.line_at.Given as goal

abbrev pub invariant-loop-at : goal.invariant-loop-at
invariant-loop-at l = (Seeking l.bytes l.n l.at l.left) × (l.at ≤ length l.bytes + 2)

abbrev pub decreases-loop-at : goal.decreases-loop-at
decreases-loop-at l = length l.bytes + 2 - l.at
