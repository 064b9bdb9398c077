-- `number::point_at` meets its contract.
use Rattle.std.proofs.Common.{rules, ◌≡◌}
use borrow.Author.Tests.{tests}
use native.Mathlib.Omega.{arith}
use lib.Dec.{eqb}
use Rattle.std.specs.Prelude.{position}
use Rattle.base.proofs.StdLists.{position_of_slice, up_to_told, up_to_within}
use Rattle.number.proofs.point_at.Goals as goal

pub returns : goal.returns
returns c =
    let o : c.position.result ≡ position (λ y. eqb y 46) c.args.g.now = position_of_slice (λ y. eqb y 46) c.args.g.now _ _ c.position.ensures.ran (cc) (λ x b q k. search (rules, tests)) in
    let e = up_to_told 46 c.args.g.now _ _ o c.unwrap_or.ensures in
    (e, omega (arith, e, up_to_within 46 c.args.g.now))
