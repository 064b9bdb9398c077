-- `places::met::meets` meets its contract.
use mathlib.Core.Path.{◌≡◌, sym, ◌∙◌}
use Prim.Native.Nat.{◌≤◌, ◌<◌}
use native.Mathlib.Omega.{arith}
use borrow.Author.Rules.{rules}
use lib.ListN.{length}
use Rattle.places.proofs.MetLaws.{meets_told, rest_unmet, rest_none}
use Rattle.places.proofs.met.meets.Goals as goal

pub returns-then-not-is_met : goal.returns-then-not-is_met
returns-then-not-is_met c =
    let n : length c.references.result.to ≡ 2 = search rules in
    let h : c.loop-key.key-index < length c.references.result.to = omega (arith, n, c.loop-key-test.true) in
    meets_told _ _ _ c.references.ensures c.requires.0.fines c.requires.1 _ (rest_unmet _ _ _ c.loop-key.invariant _ h (sym c.is_met.ensures ∙ c.if-not-is_met.true))

pub returns : goal.returns
returns c =
    let n : length c.references.result.to ≡ 2 = search rules in
    let h : length c.references.result.to ≤ c.loop-key.key-index = omega (arith, n, c.loop-key-test.false) in
    meets_told _ _ _ c.references.ensures c.requires.0.fines c.requires.1 _ (rest_none _ _ _ c.loop-key.invariant h)
