-- `holding::unmet::unmet` meets its contract.
use Rattle.holding.proofs.ReadLaws.{unmets, unmet_turn}
use borrow.Author.Rules.{rules}
use Rattle.holding.proofs.unmet.unmet.Goals as goal

pub loop-i-init : goal.loop-i-init
loop-i-init c = search unmets

pub bounds-tags-i : goal.bounds-tags-i
bounds-tags-i c = search unmets

pub note_noted-requires : goal.note_noted-requires
note_noted-requires c = let p = c.requires in (p.0, search unmets, search unmets, search unmets, p.3.each c.loop-i.i c.loop-i-test.true)

pub returns-then-not-note_noted : goal.returns-then-not-note_noted
returns-then-not-note_noted c = search unmets

pub loop-i-preserved : goal.loop-i-preserved
loop-i-preserved c = let p = c.requires in (unmet_turn _ _ _ _ _ _ c.loop-i.invariant.0 p.0 p.2 c.loop-i-test.true _ _ c.note_noted.ensures c.if-not-note_noted.false, search rules)

pub returns : goal.returns
returns c = search unmets
