-- `entries::record::line_of` meets its contract.
use mathlib.Core.Path.{ap}
use Rattle.entries.proofs.EntryLaws.{line_held, line_filed}
use Rattle.entries.proofs.record.line_of.Goals as goal
use Rattle.entries.proofs.record.line_of.Goals.{then-entry-eq0, else-entry-eq0}

pub returns : goal.returns
returns c = elim c.if-entry-eq0.branch [
  | then-entry-eq0 w ↦ line_held _ _ _ _ w.if-entry-eq0.true (ap (λ s. s.now) w.bytes-is)
  | else-entry-eq0 w ↦ line_filed _ _ _ _ w.if-entry-eq0.false (ap (λ s. s.now) w.bytes-is)
]
