-- `volume::check::pass_on` meets its contract: a line that was passed is walked on by the laws of any line.
use native.Mathlib.Omega.{arith}
use Rattle.layout.specs.Meant.{kind_meant}
use Rattle.pass.specs.Kinds.{PassedAs}
use Rattle.volume.proofs.PassLaws.{closed_well, passed_turn, passed_next}
use Rattle.volume.proofs.check.pass_on.Goals as goal

pub returns : goal.returns
returns c =
    let p : PassedAs (kind_meant c.in_ok-kind.field-0.kind) c.args.file.now c.pass_kind.new.ends c.args.at c.in_ok-kind.field-0.end = rw c.in_ok-kind.was at c.pass_kind.ensures.1 in
    let f = p.line.forward in
    let closed = closed_well _ _ _ _ c.ok.ensures.value c.in_ok-ok.was c.close_line.ensures in
    (c.pass_kind.ensures.0, (passed_turn _ _ _ _ _ p c.args.walk c.stage_after.result c.stage_after.ensures c.in_ok-after.after c.in_ok-after.was c.requires.0 closed _ c.after.ensures, omega arith, passed_next _ _ _ _ _ p))
