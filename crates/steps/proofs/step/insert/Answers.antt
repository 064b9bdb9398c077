-- `steps::step::insert` meets its contract.
use Rattle.steps.proofs.StepLaws.{passed_ok, ins_in, ins_place, ins_tags, ins_counts, ins_asked, ins_step}
use Rattle.steps.proofs.step.insert.Goals as goal

pub open-requires : goal.open-requires
open-requires c =
    let q = passed_ok _ _ _ _ _ _ _ c.judge_insert.ensures _ c.in_ok-judged.was in
    (ins_place _ _ _ _ _ _ _ _ c.requires.0 c.requires.1 _ q, ins_in _ _ _ _ _ _ _ _ c.requires.0 c.requires.1 _ q)

pub open-requires-2 : goal.open-requires-2
open-requires-2 c =
    let q = passed_ok _ _ _ _ _ _ _ c.judge_insert.ensures _ c.in_ok-judged.was in
    (ins_place _ _ _ _ _ _ _ _ c.requires.0 c.requires.1 _ q, ins_tags _ _ _ _ _ _ _ _ c.requires.0 c.requires.1 _ q)

pub open-requires-3 : goal.open-requires-3
open-requires-3 c =
    let q = passed_ok _ _ _ _ _ _ _ c.judge_insert.ensures _ c.in_ok-judged.was in
    (ins_place _ _ _ _ _ _ _ _ c.requires.0 c.requires.1 _ q, ins_counts _ _ _ _ _ _ _ _ c.requires.0 c.requires.1 _ q)

pub note-requires : goal.note-requires
note-requires c =
    let q = passed_ok _ _ _ _ _ _ _ c.judge_insert.ensures _ c.in_ok-judged.was in
    ins_asked _ _ _ _ _ _ _ _ c.requires.0 c.requires.1 _ q _ c.«open».ensures _ c.entry_tag.ensures _ c.open-2.ensures _ c.open-3.ensures

pub returns : goal.returns
returns c =
    let q = passed_ok _ _ _ _ _ _ _ c.judge_insert.ensures _ c.in_ok-judged.was in
    ins_step _ _ _ _ _ _ _ _ c.requires.0 c.requires.1 _ q _ c.«open».ensures _ c.entry_tag.ensures _ c.open-2.ensures _ c.open-3.ensures _ _ c.note.ensures
