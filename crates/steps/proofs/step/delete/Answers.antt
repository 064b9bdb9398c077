-- `steps::step::delete` meets its contract.
use Rattle.steps.proofs.StepLaws.{passed_ok, del_one, del_in, del_all, del_place, del_tags, del_counts, del_asked, del_step}
use Rattle.steps.proofs.step.delete.Goals as goal

pub bounds-places-place : goal.bounds-places-place
bounds-places-place c =
    let q = passed_ok _ _ _ _ _ _ _ c.judge_delete.ensures _ c.in_ok-judged.was in
    del_in _ _ _ _ _ _ _ _ c.requires.0 c.requires.1 _ q

pub note-requires : goal.note-requires
note-requires c =
    let q = passed_ok _ _ _ _ _ _ _ c.judge_delete.ensures _ c.in_ok-judged.was in
    del_asked _ _ _ _ _ _ _ _ c.requires.0 c.requires.1 _ q

pub close-requires : goal.close-requires
close-requires c =
    let q = passed_ok _ _ _ _ _ _ _ c.judge_delete.ensures _ c.in_ok-judged.was in
    (del_place _ _ _ _ _ _ _ _ c.requires.0 c.requires.1 _ q, del_all _ _ _ _ _ _ _ _ c.requires.0 c.requires.1 _ q)

pub close-requires-2 : goal.close-requires-2
close-requires-2 c =
    let q = passed_ok _ _ _ _ _ _ _ c.judge_delete.ensures _ c.in_ok-judged.was in
    (del_place _ _ _ _ _ _ _ _ c.requires.0 c.requires.1 _ q, del_tags _ _ _ _ _ _ _ _ c.requires.0 c.requires.1 _ q)

pub close-requires-3 : goal.close-requires-3
close-requires-3 c =
    let q = passed_ok _ _ _ _ _ _ _ c.judge_delete.ensures _ c.in_ok-judged.was in
    (del_place _ _ _ _ _ _ _ _ c.requires.0 c.requires.1 _ q, del_counts _ _ _ _ _ _ _ _ c.requires.0 c.requires.1 _ q _ _ c.note.ensures)

pub overflow_sub-result : goal.overflow_sub-result
overflow_sub-result c =
    let q = passed_ok _ _ _ _ _ _ _ c.judge_delete.ensures _ c.in_ok-judged.was in
    del_one _ _ _ _ _ _ _ _ c.requires.0 c.requires.1 _ q

pub returns : goal.returns
returns c =
    let q = passed_ok _ _ _ _ _ _ _ c.judge_delete.ensures _ c.in_ok-judged.was in
    del_step _ _ _ _ _ _ _ _ c.requires.0 c.requires.1 _ q _ _ c.note.ensures _ _ _ c.close.ensures c.close-2.ensures c.close-3.ensures
