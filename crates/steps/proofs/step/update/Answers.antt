-- `steps::step::update` meets its contract.
use Rattle.steps.proofs.StepLaws.{passed_ok, upd_in, upd_asked, upd_asked_new, upd_step}
use Rattle.steps.proofs.step.update.Goals as goal

pub bounds-places-place : goal.bounds-places-place
bounds-places-place c =
    let q = passed_ok _ _ _ _ _ _ _ c.judge_update.ensures _ c.in_ok-judged.was in
    upd_in _ _ _ _ _ _ _ _ c.requires.0 c.requires.1 _ q

pub note-requires : goal.note-requires
note-requires c =
    let q = passed_ok _ _ _ _ _ _ _ c.judge_update.ensures _ c.in_ok-judged.was in
    upd_asked _ _ _ _ _ _ _ _ c.requires.0 c.requires.1 _ q

pub bounds-places-place-2 : goal.bounds-places-place-2
bounds-places-place-2 c =
    let q = passed_ok _ _ _ _ _ _ _ c.judge_update.ensures _ c.in_ok-judged.was in
    upd_in _ _ _ _ _ _ _ _ c.requires.0 c.requires.1 _ q

pub note-requires-2 : goal.note-requires-2
note-requires-2 c =
    let q = passed_ok _ _ _ _ _ _ _ c.judge_update.ensures _ c.in_ok-judged.was in
    upd_asked_new _ _ _ _ _ _ _ _ c.requires.0 c.requires.1 _ q _ _ c.note.ensures

pub returns : goal.returns
returns c =
    let q = passed_ok _ _ _ _ _ _ _ c.judge_update.ensures _ c.in_ok-judged.was in
    upd_step _ _ _ _ _ _ _ _ c.requires.0 c.requires.1 _ q _ _ c.note.ensures _ _ c.note-2.ensures
