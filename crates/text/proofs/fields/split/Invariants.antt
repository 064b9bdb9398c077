-- What lasts from turn to turn of the loop of `text::fields::split`.
use Rattle.std.proofs.Common.{◌≤◌}
use Rattle.text.proofs.SplitLaws.{Splitting}
use Rattle.text.proofs.fields.split.Given as goal

abbrev pub invariant-loop-i : goal.invariant-loop-i
invariant-loop-i l = Splitting l.line l.ends l.quoted l.commas l.i × (l.commas ≤ l.i)
