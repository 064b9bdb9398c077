-- `number::is_pointed` meets its contract.
use mathlib.Core.Path.{refl}
use Rattle.number.proofs.NumberLaws.{before, after}
use Rattle.number.proofs.is_pointed.Goals as goal

pub returns-then-is_number : goal.returns-then-is_number
returns-then-is_number c =
    let b = before c.args.g.now _ c.point_at-p.ensures.0 in
    let a = after c.args.g.now _ c.point_at-p.ensures.0 _ _ _ c.get.ensures.lookup.0 refl c.unwrap_or-after.ensures in
    rw (← b, ← a, ← c.is_number.ensures, c.if-is_number.true) c.has_digits.ensures

pub returns-else-is_number : goal.returns-else-is_number
returns-else-is_number c =
    let b = before c.args.g.now _ c.point_at-p.ensures.0 in rw (← b, ← c.is_number.ensures, c.if-is_number.false)
