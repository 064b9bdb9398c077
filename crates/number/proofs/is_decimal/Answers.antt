-- `number::is_decimal` meets its contract.
use mathlib.Core.Path.{refl}
use Rattle.number.proofs.NumberLaws.{unsigned_told}
use Rattle.meaning.specs.Forms.{is_decimal}
use Rattle.number.proofs.is_decimal.Goals as goal

pub returns : goal.returns
unfolding is_decimal
returns c = let u = unsigned_told c.args.f.now c.strip_prefix.result c.args.f _ c.strip_prefix.ensures.cases refl c.unwrap_or.ensures in rw (← u) c.is_pointed.ensures
