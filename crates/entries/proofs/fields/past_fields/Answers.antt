-- `entries::fields::past_fields` meets its contract.
use mathlib.Core.Path.{◌≡◌}
use Prim.Native.Nat.{◌+◌, ◌-◌}
use native.Mathlib.Omega.{arith}
use borrow.Author.Rules.{rules}
use Rattle.entries.proofs.FieldLaws.{past_done, past_over, past_ends, past_turn}
use Rattle.entries.proofs.fields.past_fields.Goals as goal
use Rattle.entries.proofs.fields.past_fields.Goals.{then-bytes-end-via-then-bytes-end, then-bytes-end-via-else-bytes-end+then-bytes-end-ne44}

pub returns-then-bytes-end : goal.returns-then-bytes-end
returns-then-bytes-end c = elim c.then-bytes-end.branch [
  | then-bytes-end-via-then-bytes-end w ↦ (past_over _ _ _ _ c.loop.invariant.0 _ c.field_end-end.ensures.0 (omega (arith, c.loop-test.true)) w.if-bytes-end.true, search rules)
  | then-bytes-end-via-else-bytes-end+then-bytes-end-ne44 w ↦ (past_ends _ _ _ _ c.loop.invariant.0 _ c.field_end-end.ensures.0 (omega (arith, c.loop-test.true)) w.if-bytes-end-ne44.true, search rules)
]

pub loop-preserved : goal.loop-preserved
loop-preserved c =
    let z : c.args.count - (c.loop.counter + 1) ≡ c.args.count - c.loop.counter - 1 = omega arith in (
      rw z (past_turn _ _ _ _ c.loop.invariant.0 _ c.field_end-end.ensures.0 (omega (arith, c.loop-test.true)) c.if-bytes-end.false c.if-bytes-end-ne44.false),
      search rules,
    )

pub returns : goal.returns
returns c = (past_done _ _ _ _ c.loop.invariant.0 (omega (arith, c.loop-test.false)), search rules)
