-- `number::calendar::is_time` meets its contract.
use native.Mathlib.Omega.{arith}
use Rattle.std.proofs.lemmas.Grind.{common_steps}
use Rattle.base.specs.Lists.{part}
use Rattle.meaning.specs.Forms.{is_time, is_digits}
use Rattle.number.proofs.calendar.is_time.Goals as goal

pub returns-then-value-le59 : goal.returns-then-value-le59
unfolding is_time is_digits part
returns-then-value-le59 c = grind (arith, common_steps)

pub returns-else-value-le59 : goal.returns-else-value-le59
unfolding is_time is_digits part
returns-else-value-le59 c = grind (arith, common_steps)
