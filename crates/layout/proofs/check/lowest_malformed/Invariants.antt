-- What lasts from turn to turn of the loop of `layout::check::lowest_malformed`.
use Rattle.layout.proofs.PassLaws.{Passing}
use Rattle.layout.specs.Meant.{kind_meant}
use Rattle.layout.proofs.check.lowest_malformed.Given as goal

abbrev pub invariant-loop-k : goal.invariant-loop-k
invariant-loop-k l = Passing (kind_meant l.kind) l.line l.ends l.k-end l.k l.at
