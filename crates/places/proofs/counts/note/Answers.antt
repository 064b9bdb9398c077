-- `places::counts::note` meets its contract.
use mathlib.Core.Path.{◌≡◌}
use Prim.Native.Nat.{◌≤◌, ◌<◌}
use native.Mathlib.Omega.{arith}
use borrow.Author.Rules.{rules}
use lib.ListN.{length}
use Rattle.places.proofs.NoteLaws.{left_start, from_open, from_unmet, from_next, from_done}
use Rattle.places.proofs.counts.note.Goals as goal

pub loop-key-init : goal.loop-key-init
loop-key-init c = left_start _ _ _ _ c.references.ensures _ c.requires.2

pub note_one-requires : goal.note_one-requires
note_one-requires c =
    let n : length c.references.result.to ≡ 2 = search rules in
    let h : c.loop-key.key-index < length c.references.result.to = omega (arith, n, c.loop-key-test.true) in
    (c.requires.0, search rules, from_open _ _ _ _ _ _ _ _ c.loop-key.invariant _ h)

pub returns-then-not-note_one : goal.returns-then-not-note_one
returns-then-not-note_one c =
    let n : length c.references.result.to ≡ 2 = search rules in
    let h : c.loop-key.key-index < length c.references.result.to = omega (arith, n, c.loop-key-test.true) in
    from_unmet _ _ _ _ _ _ _ _ c.loop-key.invariant _ h _ _ c.note_one.ensures c.if-not-note_one.true

pub loop-key-preserved : goal.loop-key-preserved
loop-key-preserved c =
    let n : length c.references.result.to ≡ 2 = search rules in
    let h : c.loop-key.key-index < length c.references.result.to = omega (arith, n, c.loop-key-test.true) in
    from_next _ _ _ _ _ _ _ _ c.loop-key.invariant _ h _ _ c.note_one.ensures c.if-not-note_one.false

pub returns : goal.returns
returns c =
    let n : length c.references.result.to ≡ 2 = search rules in
    let h : length c.references.result.to ≤ c.loop-key.key-index = omega (arith, n, c.loop-key-test.false) in
    from_done _ _ _ _ _ _ _ _ c.loop-key.invariant h
