-- `writer::runs::write_holding` meets its contract.
use Rattle.writer.proofs.RunLaws.{holding, writing_start, line_turn, insert_next, insert_fits}
use Rattle.meaning.specs.Holding.{written}
use native.Mathlib.Omega.{arith}
use Rattle.writer.proofs.runs.write_holding.Goals as goal

pub loop-i-init : goal.loop-i-init
loop-i-init c = writing_start _ _

pub unreachable-requires : goal.unreachable-requires
unfolding written
unreachable-requires c = omega (arith, c.in_default.ensures, insert_fits _ _ _ _ _ c.requires.0 _ _ _ c.loop-i.invariant c.loop-i-test.true c.requires.1)

pub loop-i-preserved : goal.loop-i-preserved
loop-i-preserved c = let n = insert_next _ _ _ _ _ c.requires.0 c.loop-i-test.true in line_turn _ _ _ _ _ _ c.loop-i.invariant n _ (omega (arith, c.loop-i.invariant.within, c.loop-i.invariant.same)) _ _ c.in-Some.ensures (omega (arith, c.loop-i.invariant.same))

pub returns : goal.returns
unfolding written
returns c = search holding
