-- `words::dates::is_usual_date` meets its contract.
use mathlib.Core.Path.{sym, ◌∙◌}
use native.Mathlib.Omega.{arith}
use Rattle.words.proofs.DateLaws.{real_early, dated_at, small_at}
use Rattle.words.proofs.dates.is_usual_date.Goals as goal

pub overflow_mul-pairs : goal.overflow_mul-pairs
overflow_mul-pairs c = let w = c.word_at-w in
    let m = c.marked-unlike in
    let l = small_at c.args.s.now c.args.at w.result m.result c.requires w.ensures.0 w.ensures.1 m.ensures c.if-unlike-ne0.false in
    omega (arith, l)

pub overflow_add-pairs : goal.overflow_add-pairs
overflow_add-pairs c = let w = c.word_at-w in
    let m = c.marked-unlike in
    let l = small_at c.args.s.now c.args.at w.result m.result c.requires w.ensures.0 w.ensures.1 m.ensures c.if-unlike-ne0.false in
    omega (arith, l)

pub returns-then-is_of_each_month : goal.returns-then-is_of_each_month
returns-then-is_of_each_month c = λ _. let m = c.marked-unlike in
    let h = c.in-Some.ensures.1 in
    let d = c.is_of_each_month.ensures c.if-is_of_each_month.true in
    dated_at c.args.s.now c.args.at c.word_at-w.result m.result c.requires
    c.word_at-w.ensures.0 c.word_at-w.ensures.1 m.ensures c.if-unlike-ne0.false
    c.in-Some.hundreds h (real_early _ _ _ (omega (arith, h.late)) (omega arith) (omega arith) d.0 d.1)

pub returns-else-is_of_each_month : goal.returns-else-is_of_each_month
returns-else-is_of_each_month c = λ e. let m = c.marked-unlike in
    dated_at c.args.s.now c.args.at c.word_at-w.result m.result c.requires
    c.word_at-w.ensures.0 c.word_at-w.ensures.1 m.ensures c.if-unlike-ne0.false
    c.in-Some.hundreds c.in-Some.ensures.1 (sym c.is_day.ensures ∙ e)
