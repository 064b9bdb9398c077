-- `judge::judge_delete` meets its contract.
use mathlib.Core.Path.{refl}
use Rattle.judge.proofs.FindLaws.{stands_ok, stands_err}
use Rattle.judge.proofs.JudgeLaws.{place_in, count_in, del_absent, del_met, del_room, del_taken}
use Rattle.judge.proofs.judge_delete.Goals as goal

pub returns-in-Err : goal.returns-in-Err
returns-in-Err c =
    let p = c.requires in
    let w = stands_err _ _ _ _ _ _ _ c.find.ensures c.in-Err.is in
    rw c.refuse.ensures (del_absent _ _ _ _ _ _ p.0.holds _ p.1 _ p.2 _ _ w refl)

pub bounds-counts-place : goal.bounds-counts-place
bounds-counts-place c =
    let p = c.requires in
    let w = stands_ok _ _ _ _ _ _ _ c.find.ensures c.in-Ok.is in
    count_in _ _ _ _ _ _ p.0.holds _ p.1 _ p.2 _ _ w refl _ p.0

pub returns-then-counts-place-ne0 : goal.returns-then-counts-place-ne0
returns-then-counts-place-ne0 c =
    let p = c.requires in
    let w = stands_ok _ _ _ _ _ _ _ c.find.ensures c.in-Ok.is in
    rw c.refuse-then-counts-place-ne0.ensures (del_met _ _ _ _ _ _ p.0.holds _ p.1 _ p.2 _ _ w refl _ p.0 c.if-counts-place-ne0.true)

pub bounds-places-place : goal.bounds-places-place
bounds-places-place c =
    let p = c.requires in
    let w = stands_ok _ _ _ _ _ _ _ c.find.ensures c.in-Ok.is in
    place_in _ _ _ _ _ _ p.0.holds _ p.1 _ p.2 _ _ w refl

pub overflow_sub-result : goal.overflow_sub-result
overflow_sub-result c =
    let p = c.requires in
    let w = stands_ok _ _ _ _ _ _ _ c.find.ensures c.in-Ok.is in
    del_room _ _ _ _ _ _ p.0.holds _ p.1 _ p.2 _ _ w refl _ _ c.entry_length.ensures.0 c.width.ensures.0

pub returns : goal.returns
returns c =
    let p = c.requires in
    let w = stands_ok _ _ _ _ _ _ _ c.find.ensures c.in-Ok.is in
    del_taken _ _ _ _ _ _ p.0.holds _ p.1 _ p.2 _ _ w refl _ _ c.entry_length.ensures.0 c.width.ensures.0 _ p.0 c.if-counts-place-ne0.false
