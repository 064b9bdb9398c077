-- `text::numbers::width` meets its contract.
use Rattle.std.proofs.Common.{arith, rules}
use Rattle.text.proofs.NumberLaws.{width_log}
use Rattle.text.proofs.numbers.width.Goals as goal

pub returns : goal.returns
returns c = (width_log c.ilog10.result c.args.n (search rules) (search rules), omega (arith, c.ilog10.ensures.bound))
