-- `pass::line::pass_line` meets its contract.
use borrow.Author.Rules.{rules}
use mathlib.Core.Path.{◌≡◌, sym, ◌∙◌}
use mathlib.Core.Bool.{true}
use native.Mathlib.Omega.{arith}
use borrow.Author.Tests.{eqb-true}
use lib.ListN.{length-set}
use Rattle.pass.proofs.LeafLaws.{some_if}
use Rattle.pass.proofs.LineLaws.{line_start, line_turn, line_end_lem}
use Rattle.pass.proofs.line.pass_line.Goals as goal
use Rattle.pass.proofs.line.pass_line.Goals.{then-k-rows, else-k-rows}

pub loop-k-init : goal.loop-k-init
loop-k-init c = (line_start _ _ _ _ c.requires.0 c.requires.1, search rules)

pub returns-then-s-end-ne44 : goal.returns-then-s-end-ne44
returns-then-s-end-ne44 c = (
  simp length-set c.loop-k.invariant.1,
  some_if _ _ _ _ c.then_some.ensures (λ (t : c.if-k-rows.then_some ≡ true). elim c.if-k-rows.branch [
    | then-k-rows w ↦ (line_end_lem c.args.rows.now _ _ _ _ _ _ c.loop-k.invariant.0 c.loop-k-test.true (omega arith) c.in_ok-end.ensures w.if-k-rows.true _ w.ends_at.ensures (sym w.then_some-is ∙ t), c.in_ok-end.ensures.inside)
    | else-k-rows w ↦ absurd (w.if-k-rows.false (eqb-true _ _ (sym w.then_some-is ∙ t)))
  ]),
)

pub loop-k-preserved : goal.loop-k-preserved
loop-k-preserved c = (line_turn c.args.rows.now _ _ _ _ _ _ c.loop-k.invariant.0 c.loop-k-test.true (omega arith) c.in_ok-end.ensures c.if-s-end-ne44.false, simp length-set c.loop-k.invariant.1)
