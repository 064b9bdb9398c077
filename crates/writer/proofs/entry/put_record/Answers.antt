-- `writer::entry::put_record` meets its contract.
use native.Mathlib.Omega.{arith}
use Rattle.writer.proofs.EntryLaws.{record_long, record_put}
use Rattle.writer.proofs.entry.put_record.Goals as goal

pub returns-then-room-digits : goal.returns-then-room-digits
returns-then-room-digits c = record_long _ _ _ _ _ c.record_content-content.ensures (omega (arith, c.if-room-digits.true, c.width-digits.ensures))

pub returns : goal.returns
returns c = record_put _ _ _ _ _ c.record_content-content.ensures _ _ _ _ (omega (arith, c.if-room-digits.false, c.width-digits.ensures)) c.record_kind-kind.ensures c.put_line.ensures.0 c.put_line.ensures.1
