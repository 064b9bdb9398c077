-- What lasts from turn to turn of the loop of `text::fields::field_start`.
use Rattle.std.proofs.Common.{◌-◌}
use Rattle.text.proofs.SeekLaws.{Seeking}
use Rattle.text.proofs.fields.field_start.Given as goal

abbrev pub invariant-loop : goal.invariant-loop
invariant-loop l = Seeking l.line l.k l.at (l.k - l.counter)
