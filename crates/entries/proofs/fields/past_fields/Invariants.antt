-- What lasts from turn to turn of the loop of `entries::fields::past_fields`.
use mathlib.Core.Path.{◌≡◌}
use Prim.Native.Nat.{◌-◌, ◌≤◌}
use lib.ListN.{length}
use Rattle.entries.specs.Entries.{line_at}
use Rattle.entries.specs.Fields.{after_fields}
use Rattle.entries.proofs.fields.past_fields.Given as goal

abbrev pub invariant-loop : goal.invariant-loop
invariant-loop l = (after_fields (l.count - l.counter) (line_at l.bytes l.i) ≡ after_fields l.count (line_at l.bytes l.at)) × (l.i ≤ length l.bytes)
