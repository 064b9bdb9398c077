-- `holding::scan::scan` meets its contract.
use Rattle.holding.proofs.ScanLaws.{scanning, scan_stop, scan_room, scan_forward, scan_within, scan_turn, starts_room, starts_same}
use native.Mathlib.Omega.{arith}
use mathlib.Core.Path.{◌∙◌}
use Rattle.holding.proofs.scan.scan.Goals as goal

pub loop-at-init : goal.loop-at-init
loop-at-init c = search scanning

pub returns-in_err-kept : goal.returns-in_err-kept
returns-in_err-kept c = scan_stop _ _ _ _ _ _ c.loop-at-test.true _ c.loop-at.invariant.0 _ c.next_line.ensures.1 _ c.ok_or.ensures.value _ c.in_err-kept.was _ c.from_residual.ensures.1

pub bounds-starts-count : goal.bounds-starts-count
bounds-starts-count c = let i = c.loop-at.invariant in scan_room _ _ _ _ _ _ c.loop-at-test.true _ i.0 _ c.next_line.ensures.1 _ c.ok_or.ensures.value _ c.in_ok-kept.was c.loop-at.starts i.2

pub bounds-tags-count : goal.bounds-tags-count
bounds-tags-count c = let i = c.loop-at.invariant in scan_room _ _ _ _ _ _ c.loop-at-test.true _ i.0 _ c.next_line.ensures.1 _ c.ok_or.ensures.value _ c.in_ok-kept.was c.loop-at.tags i.4

pub bounds-noted-count : goal.bounds-noted-count
bounds-noted-count c = let i = c.loop-at.invariant in scan_room _ _ _ _ _ _ c.loop-at-test.true _ i.0 _ c.next_line.ensures.1 _ c.ok_or.ensures.value _ c.in_ok-kept.was c.loop-at.noted i.6

pub overflow_add-at : goal.overflow_add-at
overflow_add-at c = let i = c.loop-at.invariant in let g = c.well_formed in let w = scan_within _ _ _ _ _ _ c.loop-at-test.true _ i.0 _ c.next_line.ensures.1 _ c.ok_or.ensures.value _ c.in_ok-kept.was in omega (arith, w)

pub loop-at-smaller : goal.loop-at-smaller
loop-at-smaller c = let i = c.loop-at.invariant in let f = scan_forward _ _ _ _ _ _ c.loop-at-test.true _ i.0 _ c.next_line.ensures.1 _ c.ok_or.ensures.value _ c.in_ok-kept.was in let m = c.loop-at-test.true in omega (arith, f, m)

pub loop-at-preserved : goal.loop-at-preserved
loop-at-preserved c = let i = c.loop-at.invariant in let a = c.args in (scan_turn _ _ _ _ _ _ c.loop-at-test.true _ i.0 _ c.next_line.ensures.1 _ c.ok_or.ensures.value _ c.in_ok-kept.was _ i.2 i.4 i.6 c.tag.ensures, c.next_line.ensures.0 ∙ i.1, starts_room c.loop-at.starts _ _ i.2, starts_same a.starts.now c.loop-at.starts _ _ i.3, starts_room c.loop-at.tags _ _ i.4, starts_same a.tags.now c.loop-at.tags _ _ i.5, starts_room c.loop-at.noted _ _ i.6, starts_same a.noted.now c.loop-at.noted _ _ i.7)

pub returns : goal.returns
returns c = search scanning
