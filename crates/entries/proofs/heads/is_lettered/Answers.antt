-- `entries::heads::is_lettered` meets its contract.
use mathlib.Core.Path.{◌≡◌}
use mathlib.Core.Bool.{◌&&◌}
use Prim.Native.Nat.{◌+◌, ◌-◌}
use borrow.Author.Tests.{le-leb, lt-leb}
use lib.Dec.{leb, ltb, eqb}
use lib.ListN.{length, get_or}
use Rattle.entries.specs.Fields.{lettered}
use Rattle.entries.proofs.HeadLaws.{and_then, and_same, four}
use Rattle.entries.proofs.heads.is_lettered.Goals as goal
use Rattle.entries.proofs.heads.is_lettered.Goals.{then-bytes-at-ge7, else-bytes-at-ge7, then-bytes-at-eq34, else-bytes-at-eq34, then-bytes-at-gt44, else-bytes-at-gt44}

pub returns-then-bytes-at-eq34-2 : goal.returns-then-bytes-at-eq34-2
unfolding lettered
returns-then-bytes-at-eq34-2 c =
    let s = c.args.bytes.now in
    let at = c.args.at in
    let p : c.if-bytes-at-ge7.value ≡ (leb 7 (length s - at) && eqb (get_or s (at + 3) 0) 34) = elim c.if-bytes-at-ge7.branch [ then-bytes-at-ge7 w ↦ and_then _ _ _ (le-leb 7 _ w.if-bytes-at-ge7.true) w.value-is | else-bytes-at-ge7 w ↦ and_same _ _ _ (lt-leb 7 _ w.if-bytes-at-ge7.false) w.value-is ] in
    let q : c.if-bytes-at-eq34.value ≡ (c.if-bytes-at-ge7.value && ltb 44 (get_or s (at + 4) 0)) = elim c.if-bytes-at-eq34.branch [ then-bytes-at-eq34 w ↦ and_then _ _ _ w.if-bytes-at-eq34.true w.value-is | else-bytes-at-eq34 w ↦ and_same _ _ _ w.if-bytes-at-eq34.false w.value-is ] in
    let r : c.if-bytes-at-gt44.value ≡ (c.if-bytes-at-eq34.value && eqb (get_or s (at + 5) 0) 34) = elim c.if-bytes-at-gt44.branch [ then-bytes-at-gt44 w ↦ and_then _ _ _ w.if-bytes-at-gt44.true w.value-is | else-bytes-at-gt44 w ↦ and_same _ _ _ w.if-bytes-at-gt44.false w.value-is ] in
    (four _ _ _ _ (eqb (get_or s (at + 6) 0) 44) _ _ _ p q r).0 c.if-bytes-at-eq34-2.true

pub returns-else-bytes-at-eq34-2 : goal.returns-else-bytes-at-eq34-2
unfolding lettered
returns-else-bytes-at-eq34-2 c =
    let s = c.args.bytes.now in
    let at = c.args.at in
    let p : c.if-bytes-at-ge7.value ≡ (leb 7 (length s - at) && eqb (get_or s (at + 3) 0) 34) = elim c.if-bytes-at-ge7.branch [ then-bytes-at-ge7 w ↦ and_then _ _ _ (le-leb 7 _ w.if-bytes-at-ge7.true) w.value-is | else-bytes-at-ge7 w ↦ and_same _ _ _ (lt-leb 7 _ w.if-bytes-at-ge7.false) w.value-is ] in
    let q : c.if-bytes-at-eq34.value ≡ (c.if-bytes-at-ge7.value && ltb 44 (get_or s (at + 4) 0)) = elim c.if-bytes-at-eq34.branch [ then-bytes-at-eq34 w ↦ and_then _ _ _ w.if-bytes-at-eq34.true w.value-is | else-bytes-at-eq34 w ↦ and_same _ _ _ w.if-bytes-at-eq34.false w.value-is ] in
    let r : c.if-bytes-at-gt44.value ≡ (c.if-bytes-at-eq34.value && eqb (get_or s (at + 5) 0) 34) = elim c.if-bytes-at-gt44.branch [ then-bytes-at-gt44 w ↦ and_then _ _ _ w.if-bytes-at-gt44.true w.value-is | else-bytes-at-gt44 w ↦ and_same _ _ _ w.if-bytes-at-gt44.false w.value-is ] in
    (four _ _ _ _ (eqb (get_or s (at + 6) 0) 44) _ _ _ p q r).1 c.if-bytes-at-eq34-2.false
