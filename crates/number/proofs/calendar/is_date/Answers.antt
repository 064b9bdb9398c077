-- `number::calendar::is_date` meets its contract.
use native.Mathlib.Omega.{arith}
use Rattle.base.specs.Lists.{part}
use Rattle.meaning.specs.Forms.{is_date, is_digits}
use Rattle.number.proofs.ByteLaws.{one}
use Rattle.number.proofs.calendar.is_date.Goals as goal

pub returns-then-is_digits-3 : goal.returns-then-is_digits-3
unfolding is_date is_digits part
returns-then-is_digits-3 c = grind (arith, one c.args.f.now 4 45, one c.args.f.now 7 45)

pub returns-else-is_digits-3 : goal.returns-else-is_digits-3
unfolding is_date is_digits part
returns-else-is_digits-3 c = grind (arith, one c.args.f.now 4 45, one c.args.f.now 7 45)
