-- `writer::runs::write_back` meets its contract.
use Rattle.writer.specs.Runs.{back_texts}
use Rattle.writer.proofs.RunLaws.{writing_start, line_long, line_in, line_turn, all_put, back_next, back_end}
use native.Mathlib.Omega.{arith}
use borrow.Author.Rules.{rules}
use mathlib.Core.Path.{refl}
use Rattle.writer.proofs.runs.write_back.Goals as goal

pub loop-done-init : goal.loop-done-init
loop-done-init c = (writing_start _ _, omega arith)

pub returns-in_err-pos : goal.returns-in_err-pos
unfolding back_texts
returns-in_err-pos c = rw c.from_residual.ensures (line_long _ _ _ _ _ _ c.loop-done.invariant.0 (back_next _ _ _ _ _ _ _ _ c.loop-done-test.true refl c.step_back-change.ensures) _ c.loop-done.invariant.1 c.in_err-pos.ensures)

pub loop-done-preserved : goal.loop-done-preserved
loop-done-preserved c = let n = back_next _ _ _ _ _ _ _ _ c.loop-done-test.true refl c.step_back-change.ensures in let w = rw c.in_ok-pos.was at c.put_entry.ensures in (line_turn _ _ _ _ _ _ c.loop-done.invariant.0 n _ c.loop-done.invariant.1 _ _ w c.requires.2, line_in _ _ _ _ _ _ c.loop-done.invariant.0 n _ c.loop-done.invariant.1 _ _ w)

pub returns : goal.returns
unfolding back_texts
returns c = all_put _ _ _ _ _ c.loop-done.invariant.0 (back_end _ _ _ _ _ _ (search rules)) _ c.loop-done.invariant.1
