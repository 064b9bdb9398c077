-- `judge::judge_update` meets its contract.
use mathlib.Core.Path.{refl}
use Rattle.judge.proofs.FindLaws.{stands_ok, stands_err}
use Rattle.judge.proofs.JudgeLaws.{place_in, was_written, upd_absent, upd_unmet, upd_long, upd_taken}
use Rattle.judge.proofs.judge_update.Goals as goal

pub returns-in-Err : goal.returns-in-Err
returns-in-Err c =
    let p = c.requires in
    let w = stands_err _ _ _ _ _ _ _ c.find.ensures c.in-Err.is in
    rw c.refuse.ensures (upd_absent _ _ _ _ _ _ p.0 _ p.1 _ p.2 _ _ w refl)

pub returns-then-not-meets : goal.returns-then-not-meets
returns-then-not-meets c =
    let p = c.requires in
    let w = stands_ok _ _ _ _ _ _ _ c.find.ensures c.in-Ok.is in
    rw c.refuse-then-not-meets.ensures (upd_unmet _ _ _ _ _ _ p.0 _ p.1 _ p.2 _ _ w refl _ c.meets.ensures c.if-not-meets.true)

pub bounds-places-place : goal.bounds-places-place
bounds-places-place c =
    let p = c.requires in
    let w = stands_ok _ _ _ _ _ _ _ c.find.ensures c.in-Ok.is in
    place_in _ _ _ _ _ _ p.0 _ p.1 _ p.2 _ _ w refl

pub overflow_sub-rest : goal.overflow_sub-rest
overflow_sub-rest c =
    let p = c.requires in
    let w = stands_ok _ _ _ _ _ _ _ c.find.ensures c.in-Ok.is in
    was_written _ _ _ _ _ _ p.0 _ p.1 _ p.2 _ _ w refl _ c.entry_length.ensures.0

pub returns-then-room-rest : goal.returns-then-room-rest
returns-then-room-rest c =
    let p = c.requires in
    let w = stands_ok _ _ _ _ _ _ _ c.find.ensures c.in-Ok.is in
    rw c.refuse-then-room-rest.ensures (upd_long _ _ _ _ _ _ p.0 _ p.1 _ p.2 _ _ w refl _ c.meets.ensures _ _ c.entry_length.ensures.0 c.entry_length-new.ensures.0 c.if-not-meets.false c.if-room-rest.true)

pub returns : goal.returns
returns c =
    let p = c.requires in
    let w = stands_ok _ _ _ _ _ _ _ c.find.ensures c.in-Ok.is in
    upd_taken _ _ _ _ _ _ p.0 _ p.1 _ p.2 _ _ w refl _ c.meets.ensures _ _ c.entry_length.ensures.0 c.entry_length-new.ensures.0 c.if-not-meets.false c.if-room-rest.false
