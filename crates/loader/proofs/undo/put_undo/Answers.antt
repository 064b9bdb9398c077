-- `loader::undo::put_undo` meets its contract.
use Rattle.loader.proofs.UndoLaws.{frame_long_lem, put_long, put_done}
use Rattle.loader.proofs.undo.put_undo.Goals as goal

pub returns-then-out-frame : goal.returns-then-out-frame
returns-then-out-frame c = let g = c.args in frame_long_lem g.holding.now g.file.now g.steps.now g.before.now g.count g.end _ c.line_end-start.ensures.0 c.requires.1 g.out.now c.if-out-frame.true

pub returns-in_err-pos : goal.returns-in_err-pos
returns-in_err-pos c = let g = c.args in rw c.from_residual.ensures (put_long g.holding.now g.file.now g.steps.now g.before.now g.count g.end _ c.line_end-start.ensures.0 c.requires.1 g.out.now c.if-out-frame.false c.in_err-pos.ensures)

pub returns : goal.returns
returns c =
    let g = c.args in
    let w = rw c.in_ok-pos.was at c.write_back.ensures in
    put_done g.holding.now g.file.now g.steps.now g.before.now g.count g.end _ c.line_end-start.ensures.0 c.requires.1 g.out.now c.if-out-frame.false _ _ c.bytes-at.ensures.0 c.bytes-at.ensures.1 _ _ w _ c.bytes.ensures.0 _ c.bytes.ensures.1
