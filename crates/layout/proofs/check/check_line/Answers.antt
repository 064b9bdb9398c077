-- `layout::check::check_line` meets its contract.
use native.Mathlib.Omega.{arith}
use Rattle.layout.proofs.CheckLaws.{faults, right_count}
use Rattle.layout.proofs.check.check_line.Goals as goal

pub returns-then-split-l : goal.returns-then-split-l
returns-then-split-l c = search faults

pub lowest_malformed-requires : goal.lowest_malformed-requires
lowest_malformed-requires c = record { many = right_count _ _ _ c.layout-l.ensures _ c.split.ensures.0 c.if-split-l.false; noted = c.split.ensures.1; room = omega (arith, c.split.ensures.2) }

pub returns-in_err-lowest_malformed : goal.returns-in_err-lowest_malformed
returns-in_err-lowest_malformed c = search faults

pub dates_agree-requires : goal.dates_agree-requires
dates_agree-requires c = record { many = right_count _ _ _ c.layout-l.ensures _ c.split.ensures.0 c.if-split-l.false; noted = c.split.ensures.1; room = omega (arith, c.split.ensures.2) }

pub returns-then-not-dates_agree : goal.returns-then-not-dates_agree
returns-then-not-dates_agree c = search faults

pub returns : goal.returns
returns c = search faults
