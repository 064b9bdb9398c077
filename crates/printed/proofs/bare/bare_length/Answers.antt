-- `printed::bare::bare_length` meets its contract.
use Rattle.std.proofs.Common.{rules, sym}
use Rattle.printed.proofs.BareLaws.{bare_last, bare_nothing}
use Rattle.printed.proofs.bare.bare_length.Goals as goal

pub returns-in-Some : goal.returns-in-Some
returns-in-Some c = (search rules, bare_last c.args.s.now c.in-Some.last (search rules) (search rules) (search rules))

pub returns-in-None : goal.returns-in-None
returns-in-None c = (search rules, sym (bare_nothing c.args.s.now (search rules)))
