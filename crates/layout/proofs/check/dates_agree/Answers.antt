-- `layout::check::dates_agree` meets its contract.
use Rattle.layout.proofs.CheckLaws.{kinddates}
use Rattle.layout.proofs.check.dates_agree.Goals.{then-l-eq0-via-then-l-eq0, then-l-eq0-via-else-l-eq0+then-l-eq0-2}
use Rattle.layout.proofs.check.dates_agree.Goals as goal

pub returns-then-l-eq0 : goal.returns-then-l-eq0
returns-then-l-eq0 c = elim c.then-l-eq0.branch [ then-l-eq0-via-then-l-eq0 w ↦ search kinddates | then-l-eq0-via-else-l-eq0+then-l-eq0-2 w ↦ search kinddates ]

pub noted_field-requires : goal.noted_field-requires
noted_field-requires c = search kinddates

pub noted_field-requires-2 : goal.noted_field-requires-2
noted_field-requires-2 c = search kinddates

pub returns : goal.returns
returns c = search kinddates
