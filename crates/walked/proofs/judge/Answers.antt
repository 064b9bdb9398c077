-- `walked::judge` meets its contract.
use native.Mathlib.Omega.{arith}
use Rattle.layout.proofs.CheckLaws.{right_count}
use Rattle.walked.proofs.judge.Goals as goal

pub lowest_malformed-requires : goal.lowest_malformed-requires
lowest_malformed-requires c = let n = c.split.ensures in
    record { many = right_count _ _ _ c.layout.ensures _ n.0 c.if-split-layout.false; noted = n.1; room = omega (arith, n.2) }
