-- What lasts from turn to turn of the loop of `holding::scan::scan`, and what each turn makes smaller.
use Rattle.holding.proofs.ScanLaws.{Scanning}
use Rattle.keys.specs.Numbers.{key_list}
use Prim.Native.Nat.{◌-◌, ◌≤◌}
use mathlib.Core.Path.{◌≡◌}
use lib.ListN.{length}
use Rattle.meaning.specs.Holding.{most_records}
use Rattle.holding.proofs.scan.scan.Given as goal

abbrev pub invariant-loop-at : goal.invariant-loop-at
invariant-loop-at l = Scanning l.holding l.starts l.tags l.noted l.count l.at (key_list l.before) × (length l.ends ≡ 32) × (most_records ≤ length l.starts) × (length l.starts ≡ length l.initial.starts) × (most_records ≤ length l.tags) × (length l.tags ≡ length l.initial.tags) × (most_records ≤ length l.noted) × (length l.noted ≡ length l.initial.noted)

abbrev pub decreases-loop-at : goal.decreases-loop-at
decreases-loop-at l = length l.holding - l.at
