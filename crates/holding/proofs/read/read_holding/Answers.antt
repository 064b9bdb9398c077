-- `holding::read::read_holding` meets its contract.
use Rattle.holding.proofs.ReadLaws.{held_faulty, read_faulty, read_few, read_ordered, read_noted, read_room, read_unmet, read_told}
use borrow.Author.Rules.{rules}
use native.Mathlib.Omega.{arith}
use Rattle.holding.proofs.read.read_holding.Goals as goal

pub returns-in_err-count : goal.returns-in_err-count
returns-in_err-count c = held_faulty _ _ _ _ _ (read_faulty _ _ _ _ _ c.scan.ensures _ c.in_err-count.was) _ c.from_residual.ensures.1

pub unmet-requires : goal.unmet-requires
unmet-requires c =
    let p = c.requires in
    let few = read_few _ _ _ _ _ c.scan.ensures _ c.in_ok-count.was in (
      read_ordered _ _ _ _ _ c.scan.ensures _ c.in_ok-count.was (search rules),
      omega (arith, p.2),
      few,
      read_noted _ _ _ _ _ c.scan.ensures _ c.in_ok-count.was,
      read_room _ _ _ _ _ c.scan.ensures _ c.in_ok-count.was (search rules),
    )

pub returns-in_err-unmet : goal.returns-in_err-unmet
returns-in_err-unmet c = held_faulty _ _ _ _ _ (read_unmet _ _ _ _ _ c.scan.ensures _ c.in_ok-count.was _ _ _ c.unmet.ensures _ c.in_err-unmet.was) _ c.from_residual-in_err-unmet.ensures.1

pub returns : goal.returns
returns c = read_told _ _ _ _ _ c.scan.ensures _ c.in_ok-count.was _ _ _ c.unmet.ensures _ c.in_ok-unmet.was
