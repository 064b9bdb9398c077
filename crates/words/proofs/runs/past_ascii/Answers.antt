-- `words::runs::past_ascii` meets its contract.
use Rattle.words.proofs.RunLaws.{running}
use Rattle.words.proofs.runs.past_ascii.Goals as goal

pub returns-in-Some : goal.returns-in-Some
returns-in-Some c = search running

pub loop-i-preserved : goal.loop-i-preserved
loop-i-preserved c = search running
