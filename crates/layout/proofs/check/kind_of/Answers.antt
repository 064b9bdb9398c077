-- `layout::check::kind_of` meets its contract.
use Rattle.layout.proofs.KindLaws.{identifiers}
use Rattle.layout.proofs.check.kind_of.Goals.{then-identifier-ne2-via-then-identifier-ne2, then-identifier-ne2-via-else-identifier-ne2+then-not-is_digits}
use Rattle.layout.proofs.check.kind_of.Goals as goal

pub returns-then-identifier-ne2 : goal.returns-then-identifier-ne2
returns-then-identifier-ne2 c = elim c.then-identifier-ne2.branch [ then-identifier-ne2-via-then-identifier-ne2 w ↦ search identifiers | then-identifier-ne2-via-else-identifier-ne2+then-not-is_digits w ↦ search identifiers ]

pub returns : goal.returns
returns c = search identifiers
