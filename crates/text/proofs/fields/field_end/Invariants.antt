-- What lasts from turn to turn of the loop of `text::fields::field_end`.
use Rattle.std.proofs.Common.{◌≡◌, ◌+◌}
use Rattle.text.specs.Places.{field_end}
use Rattle.text.proofs.FieldLaws.{end_at}
use Rattle.text.proofs.fields.field_end.Given as goal

abbrev pub invariant-loop-i : goal.invariant-loop-i
invariant-loop-i l = end_at l.line l.quoted (l.at + l.i) ≡ field_end l.line l.at
