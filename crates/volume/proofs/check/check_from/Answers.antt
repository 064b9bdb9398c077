-- `volume::check::check_from` meets its contract.
use borrow.Author.Rules.{rules}
use mathlib.Core.Path.{ap, ◌∙◌}
use native.Mathlib.Omega.{arith}
use Rattle.answers.specs.Meant.{fault_meant}
use Rattle.layout.proofs.PassLaws.{pass_start, pass_few, pass_forward, pass_within, pass_stop, pass_turn, pass_done}
use Rattle.volume.specs.Judged.{judged_as}
use Rattle.volume.proofs.FileLaws.{read_opened, read_fields, read_malformed, read_closed, read_turn, read_refused, read_done}
use Rattle.volume.proofs.check.check_from.Goals as goal
use Rattle.volume.proofs.check.check_from.Goals.{in-Err, in-Ok+then-loop-k-test+then-not-sound_at, in-Ok+else-loop-k-test+in-Err-close_line}

pub returns-then-file-at : goal.returns-then-file-at
returns-then-file-at c = read_done _ _ _ _ c.lines.invariant.0 c.if-file-at.true c.ended.ensures

pub loop-k-init : goal.loop-k-init
loop-k-init c = pass_start _ _ _ _ c.layout-k-end.ensures (record { many = read_fields _ _ _ _ c.if-file-at.false c.plain_end-end.ensures.0 c.lines.invariant.0 _ c.ends_at.ensures (judged_as c.open_line.result) c.open_line.ensures c.in-Ok.opened.0 c.in-Ok.opened.1 (ap judged_as c.in-Ok.is); noted = c.split-fields.ensures.1; room = omega (arith, c.split-fields.ensures.2, c.lines.invariant.1) })

pub offset_bounds-ends-k : goal.offset_bounds-ends-k
offset_bounds-ends-k c = let w = pass_few _ _ _ _ _ _ c.loop-k.invariant c.loop-k-test.true in search rules

pub bounds-ends-k : goal.bounds-ends-k
bounds-ends-k c = pass_few _ _ _ _ _ _ c.loop-k.invariant c.loop-k-test.true

pub slice_bounds-field-count : goal.slice_bounds-field-count
slice_bounds-field-count c = pass_forward _ _ _ _ _ _ c.loop-k.invariant c.loop-k-test.true

pub slice_bounds-field-start : goal.slice_bounds-field-start
slice_bounds-field-start c = let f = pass_forward _ _ _ _ _ _ c.loop-k.invariant c.loop-k-test.true in let w = pass_within _ _ _ _ _ _ c.loop-k.invariant c.loop-k-test.true in search rules

pub slice_bounds-field-end : goal.slice_bounds-field-end
slice_bounds-field-end c = let w = pass_within _ _ _ _ _ _ c.loop-k.invariant c.loop-k-test.true in search rules

pub loop-k-preserved : goal.loop-k-preserved
loop-k-preserved c = pass_turn _ _ _ _ _ _ c.loop-k.invariant c.loop-k-test.true _ c.sound_at.ensures c.if-not-sound_at.false

pub close_line-requires : goal.close_line-requires
close_line-requires c = let h = c.lines.invariant.2 in (c.loop-k.invariant.parted, pass_done _ _ _ _ _ _ c.loop-k.invariant c.loop-k-test.false, (let w = c.lines.invariant.0.within.bodies in omega (arith, c.if-file-at.false)))

pub lines-preserved : goal.lines-preserved
lines-preserved c = (read_turn _ _ _ _ c.if-file-at.false c.plain_end-end.ensures.0 c.lines.invariant.0 _ c.ends_at.ensures (judged_as c.open_line.result) c.open_line.ensures c.in-Ok.opened.0 c.in-Ok.opened.1 (ap judged_as c.in-Ok.is) (pass_done _ _ _ _ _ _ c.loop-k.invariant c.loop-k-test.false) (rw c.in_default.is at c.close_line.ensures) _ c.after-walk.ensures c.plain_end-end.ensures.1 c.plain_end-end.ensures.2, c.split-fields.ensures.2 ∙ c.lines.invariant.1, c.lines.invariant.2)

pub returns : goal.returns
returns c =
    elim c.match-open_line.branch [
      | in-Err w ↦ read_refused _ c.lines.walk _ _ _ c.at.ensures (ap fault_meant w.fault-is) (read_opened _ _ _ _ c.if-file-at.false c.plain_end-end.ensures.0 c.lines.invariant.0 _ c.ends_at.ensures (judged_as c.open_line.result) c.open_line.ensures _ (ap judged_as w.in-Err.is))
      | in-Ok+then-loop-k-test+then-not-sound_at w ↦ read_refused _ c.lines.walk _ _ _ c.at.ensures (ap fault_meant w.fault-is ∙ w.malformed_at-fault.ensures) (read_malformed _ _ _ _ c.if-file-at.false c.plain_end-end.ensures.0 c.lines.invariant.0 _ c.ends_at.ensures (judged_as c.open_line.result) c.open_line.ensures w.in-Ok.opened.0 w.in-Ok.opened.1 (ap judged_as w.in-Ok.is) _ (pass_stop _ _ _ _ _ _ w.loop-k.invariant w.loop-k-test.true _ w.sound_at.ensures w.if-not-sound_at.true))
      | in-Ok+else-loop-k-test+in-Err-close_line w ↦ read_refused _ c.lines.walk _ _ _ c.at.ensures (ap fault_meant w.fault-is) (read_closed _ _ _ _ c.if-file-at.false c.plain_end-end.ensures.0 c.lines.invariant.0 _ c.ends_at.ensures (judged_as c.open_line.result) c.open_line.ensures w.in-Ok.opened.0 w.in-Ok.opened.1 (ap judged_as w.in-Ok.is) (pass_done _ _ _ _ _ _ w.loop-k.invariant w.loop-k-test.false) _ (rw w.in-Err-close_line.is at w.close_line.ensures))
    ]
