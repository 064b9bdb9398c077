-- `words::runs::past_digits` meets its contract.
use Rattle.words.proofs.RunLaws.{running, run_turn}
use Rattle.words.proofs.runs.past_digits.Goals as goal

pub returns-in-Some : goal.returns-in-Some
returns-in-Some c = search running

pub loop-k-preserved : goal.loop-k-preserved
loop-k-preserved c = run_turn _ c.args.s.now c.args.at c.loop-k.k _ c.loop-k.invariant c.digit_marks.ensures c.in_default.ensures
