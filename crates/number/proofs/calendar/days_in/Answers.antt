-- `number::calendar::days_in` meets its contract.
use Rattle.number.proofs.MonthLaws.{by_turns_lem}
use Rattle.number.proofs.calendar.days_in.Goals as goal

pub returns-in_default : goal.returns-in_default
returns-in_default c = search by_turns_lem
