-- `entries::numbers::value_at` meets its contract.
use native.Mathlib.Omega.{arith}
use borrow.Author.Rules.{rules}
use Rattle.entries.proofs.NumberLaws.{valuing, value_turn, worth_next, next_fits}
use Rattle.entries.proofs.numbers.value_at.Goals as goal

pub loop-i-init : goal.loop-i-init
loop-i-init c = search valuing

pub returns-then-b-eq44 : goal.returns-then-b-eq44
returns-then-b-eq44 c = search valuing

pub overflow_mul-value : goal.overflow_mul-value
overflow_mul-value c = search valuing

pub overflow_add-value : goal.overflow_add-value
overflow_add-value c =
    let i = c.loop-i.invariant in
    next_fits _ _ _ _ _ i.0 i.2 _ c.min-most.ensures c.loop-i-test.true i.1 _ (omega (arith, c.from.ensures, c.shared_slice_known-1.given c.loop-i.i))

pub loop-i-preserved : goal.loop-i-preserved
loop-i-preserved c =
    let i = c.loop-i.invariant in (
      value_turn _ _ _ _ _ i.0 i.2 _ c.min-most.ensures c.loop-i-test.true _ c.if-b-lt48.false c.from.ensures,
      worth_next _ _ _ _ _ i.0 i.2 _ c.min-most.ensures c.loop-i-test.true i.1 _ (omega (arith, c.from.ensures, c.shared_slice_known-1.given c.loop-i.i)),
      search rules,
      search rules,
    )

pub returns : goal.returns
returns c = search valuing
