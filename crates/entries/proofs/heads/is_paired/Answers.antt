-- `entries::heads::is_paired` meets its contract.
use mathlib.Core.Path.{◌≡◌}
use mathlib.Core.Bool.{◌&&◌}
use Prim.Native.Nat.{◌+◌, ◌-◌}
use borrow.Author.Tests.{le-leb, lt-leb}
use lib.Dec.{leb, ltb, eqb}
use lib.ListN.{length, get_or}
use Rattle.entries.specs.Fields.{paired}
use Rattle.entries.proofs.HeadLaws.{and_then, and_same, three}
use Rattle.entries.proofs.heads.is_paired.Goals as goal
use Rattle.entries.proofs.heads.is_paired.Goals.{then-bytes-at-ge3, else-bytes-at-ge3, then-bytes-at-gt44, else-bytes-at-gt44}

pub returns-then-bytes-at-gt44-2 : goal.returns-then-bytes-at-gt44-2
unfolding paired
returns-then-bytes-at-gt44-2 c =
    let s = c.args.bytes.now in
    let at = c.args.at in
    let a : c.if-bytes-at-ge3.value ≡ (leb 3 (length s - at) && ltb 44 (get_or s at 0)) = elim c.if-bytes-at-ge3.branch [ then-bytes-at-ge3 w ↦ and_then _ _ _ (le-leb 3 _ w.if-bytes-at-ge3.true) w.value-is | else-bytes-at-ge3 w ↦ and_same _ _ _ (lt-leb 3 _ w.if-bytes-at-ge3.false) w.value-is ] in
    let b : c.if-bytes-at-gt44.value ≡ (c.if-bytes-at-ge3.value && ltb 44 (get_or s (at + 1) 0)) = elim c.if-bytes-at-gt44.branch [ then-bytes-at-gt44 w ↦ and_then _ _ _ w.if-bytes-at-gt44.true w.value-is | else-bytes-at-gt44 w ↦ and_same _ _ _ w.if-bytes-at-gt44.false w.value-is ] in
    (three _ _ _ (eqb (get_or s (at + 2) 0) 44) _ _ a b).0 c.if-bytes-at-gt44-2.true

pub returns-else-bytes-at-gt44-2 : goal.returns-else-bytes-at-gt44-2
unfolding paired
returns-else-bytes-at-gt44-2 c =
    let s = c.args.bytes.now in
    let at = c.args.at in
    let a : c.if-bytes-at-ge3.value ≡ (leb 3 (length s - at) && ltb 44 (get_or s at 0)) = elim c.if-bytes-at-ge3.branch [ then-bytes-at-ge3 w ↦ and_then _ _ _ (le-leb 3 _ w.if-bytes-at-ge3.true) w.value-is | else-bytes-at-ge3 w ↦ and_same _ _ _ (lt-leb 3 _ w.if-bytes-at-ge3.false) w.value-is ] in
    let b : c.if-bytes-at-gt44.value ≡ (c.if-bytes-at-ge3.value && ltb 44 (get_or s (at + 1) 0)) = elim c.if-bytes-at-gt44.branch [ then-bytes-at-gt44 w ↦ and_then _ _ _ w.if-bytes-at-gt44.true w.value-is | else-bytes-at-gt44 w ↦ and_same _ _ _ w.if-bytes-at-gt44.false w.value-is ] in
    (three _ _ _ (eqb (get_or s (at + 2) 0) 44) _ _ a b).1 c.if-bytes-at-gt44-2.false
