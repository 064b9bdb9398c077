-- `text::fields::noted_field` meets its contract.
use Rattle.std.proofs.Common.{rules, arith}
use Rattle.text.proofs.SplitLaws.{noted_front, noted_later}
use Rattle.text.proofs.fields.noted_field.Goals as goal

pub slice_bounds-result-end : goal.slice_bounds-result-end
slice_bounds-result-end c = let p = c.requires in let s = (noted_front _ _ p.0 (omega (arith, p.1)) (omega (arith, p.2))).0 in search rules

pub returns-then-k-eq0 : goal.returns-then-k-eq0
returns-then-k-eq0 c = let p = c.requires in let s = (noted_front _ _ p.0 (omega (arith, p.1)) (omega (arith, p.2))).1 in let z = c.if-k-eq0.true in rw z s

pub overflow_add-result : goal.overflow_add-result
overflow_add-result c = let p = c.requires in let s = noted_later _ _ p.0 _ c.if-k-eq0.false p.1 p.2 in let w = s.within in let f = s.forward in search rules

pub slice_bounds-result-count : goal.slice_bounds-result-count
slice_bounds-result-count c = let p = c.requires in (noted_later _ _ p.0 _ c.if-k-eq0.false p.1 p.2).forward

pub slice_bounds-result-start : goal.slice_bounds-result-start
slice_bounds-result-start c = let p = c.requires in let s = noted_later _ _ p.0 _ c.if-k-eq0.false p.1 p.2 in let w = s.within in let f = s.forward in search rules

pub slice_bounds-result-end-else-k-eq0 : goal.slice_bounds-result-end-else-k-eq0
slice_bounds-result-end-else-k-eq0 c = let p = c.requires in let s = noted_later _ _ p.0 _ c.if-k-eq0.false p.1 p.2 in let w = s.within in let f = s.forward in search rules

pub returns-else-k-eq0 : goal.returns-else-k-eq0
returns-else-k-eq0 c = let p = c.requires in (noted_later _ _ p.0 _ c.if-k-eq0.false p.1 p.2).bytes
