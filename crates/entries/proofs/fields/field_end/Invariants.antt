-- What lasts from turn to turn of the loop of `entries::fields::field_end`.
use Rattle.entries.proofs.FieldLaws.{end_in}
use mathlib.Core.Path.{◌≡◌}
use mathlib.Core.Bool.{false}
use Prim.Native.Nat.{◌+◌, ◌≤◌}
use lib.ListN.{length}
use Rattle.text.specs.Places.{field_len}
use Rattle.entries.specs.Entries.{line_at}
use Rattle.entries.proofs.fields.field_end.Given as goal

abbrev pub invariant-loop-i : goal.invariant-loop-i
invariant-loop-i l = (end_in l.bytes l.quoted l.i ≡ l.at + field_len false (line_at l.bytes l.at)) × (l.at ≤ l.i) × (l.i ≤ length l.bytes)
