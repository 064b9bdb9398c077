-- `places::counts::note_tags` meets its contract.
use mathlib.Core.Path.{◌≡◌}
use Prim.Native.Nat.{◌≤◌, ◌<◌}
use native.Mathlib.Omega.{arith}
use borrow.Author.Rules.{rules}
use lib.ListN.{length}
use Rattle.places.proofs.NoteLaws.{each_tells, tags_start, tags_open, tags_unmet, tags_next, tags_done}
use Rattle.places.proofs.counts.note_tags.Goals as goal

pub loop-tag-init : goal.loop-tag-init
loop-tag-init c =
    let n : length c.args.to ≡ 2 = search rules in
    let p = c.requires in
    tags_start _ _ _ p.3 p.4 p.5 n _ _ p.2

pub note_tagged-requires : goal.note_tagged-requires
note_tagged-requires c =
    let n : length c.args.to ≡ 2 = search rules in
    let h : c.loop-tag.tag-index < length c.args.to = omega (arith, n, c.loop-tag-test.true) in
    let p = c.requires in
    (p.0, search rules, tags_open _ _ _ _ _ _ _ c.loop-tag.invariant h, p.3.own, each_tells _ _ _ p.3 p.4 p.5 _ c.loop-tag-test.true)

pub returns-then-not-note_tagged : goal.returns-then-not-note_tagged
returns-then-not-note_tagged c =
    let n : length c.args.to ≡ 2 = search rules in
    let h : c.loop-tag.tag-index < length c.args.to = omega (arith, n, c.loop-tag-test.true) in
    tags_unmet _ _ _ _ _ _ _ c.loop-tag.invariant h _ _ c.note_tagged.ensures c.if-not-note_tagged.true

pub loop-tag-preserved : goal.loop-tag-preserved
loop-tag-preserved c =
    let n : length c.args.to ≡ 2 = search rules in
    let h : c.loop-tag.tag-index < length c.args.to = omega (arith, n, c.loop-tag-test.true) in
    tags_next _ _ _ _ _ _ _ c.loop-tag.invariant h _ _ c.note_tagged.ensures c.if-not-note_tagged.false

pub returns : goal.returns
returns c =
    let n : length c.args.to ≡ 2 = search rules in
    let h : length c.args.to ≤ c.loop-tag.tag-index = omega (arith, n, c.loop-tag-test.false) in
    tags_done _ _ _ _ _ _ _ c.loop-tag.invariant h
