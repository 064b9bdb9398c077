-- `entries::fields::field_end` meets its contract.
use native.Mathlib.Omega.{arith}
use borrow.Author.Rules.{rules}
use Rattle.entries.proofs.FieldLaws.{end_done, end_over, end_comma, end_quoted, end_quote, end_ends, end_other}
use Rattle.entries.proofs.fields.field_end.Goals as goal
use Rattle.entries.proofs.fields.field_end.Goals.{then-b-eq44+else-not-quoted, else-b-eq44+then-b-eq34, else-b-eq44+else-b-eq34+else-ends_at}

pub loop-i-preserved-then-b-ge45 : goal.loop-i-preserved-then-b-ge45
loop-i-preserved-then-b-ge45 c = (end_over _ _ _ _ c.loop-i.invariant.0 c.loop-i-test.true c.if-b-ge45.true, search rules, search rules)

pub returns-then-not-quoted : goal.returns-then-not-quoted
returns-then-not-quoted c = (end_comma _ _ _ _ c.loop-i.invariant.0 c.loop-i-test.true c.if-b-eq44.true c.if-not-quoted.true, search rules, search rules)

pub returns-then-ends_at : goal.returns-then-ends_at
returns-then-ends_at c = (end_ends _ _ _ _ c.loop-i.invariant.0 c.loop-i-test.true _ c.ends_at.ensures c.if-ends_at.true, search rules, search rules)

pub loop-i-preserved : goal.loop-i-preserved
loop-i-preserved c = elim c.if-b-eq44.branch [
  | then-b-eq44+else-not-quoted w ↦ (rw w.quoted-is (end_quoted _ _ _ _ c.loop-i.invariant.0 c.loop-i-test.true w.if-b-eq44.true w.if-not-quoted.false), search rules, search rules)
  | else-b-eq44+then-b-eq34 w ↦ (rw w.quoted-is (end_quote _ _ _ _ c.loop-i.invariant.0 c.loop-i-test.true w.if-b-eq34.true), search rules, search rules)
  | else-b-eq44+else-b-eq34+else-ends_at w ↦ (
    rw w.quoted-is (end_other _ _ _ _ c.loop-i.invariant.0 c.loop-i-test.true _ w.ends_at.ensures w.if-b-eq44.false w.if-b-eq34.false w.if-ends_at.false),
    search rules,
    search rules,
  )
]

pub returns : goal.returns
returns c =
    let e = end_done _ _ _ _ c.loop-i.invariant.0 c.loop-i-test.false in
    (omega (arith, e, c.loop-i.invariant.2, c.loop-i-test.false), search rules, search rules)
