-- `judge::judge_insert` meets its contract.
use mathlib.Core.Path.{refl}
use Rattle.judge.proofs.FindLaws.{stands_ok, stands_err}
use Rattle.judge.proofs.JudgeLaws.{ins_held, ins_many, ins_unmet, ins_long, ins_taken}
use Rattle.judge.proofs.judge_insert.Goals as goal

pub returns-in-Ok : goal.returns-in-Ok
returns-in-Ok c =
    let p = c.requires in
    let w = stands_ok _ _ _ _ _ _ _ c.find.ensures c.in-Ok.is in
    rw c.refuse.ensures (ins_held _ _ _ _ _ _ p.0 _ p.1 _ p.2 _ _ w refl)

pub returns-then-most_lines-count : goal.returns-then-most_lines-count
returns-then-most_lines-count c =
    let p = c.requires in
    let w = stands_err _ _ _ _ _ _ _ c.find.ensures c.in-Err.is in
    rw c.refuse-then-most_lines-count.ensures (ins_many _ _ _ _ _ _ p.0 _ p.1 _ p.2 _ _ w refl _ c.most_lines.ensures c.if-most_lines-count.true)

pub returns-then-not-met : goal.returns-then-not-met
returns-then-not-met c =
    let p = c.requires in
    let w = stands_err _ _ _ _ _ _ _ c.find.ensures c.in-Err.is in
    rw c.refuse-then-not-met.ensures (ins_unmet _ _ _ _ _ _ p.0 _ p.1 _ p.2 _ _ w refl _ c.most_lines.ensures c.if-most_lines-count.false _ c.meets-met.ensures c.if-not-met.true)

pub returns-then-room-size : goal.returns-then-room-size
returns-then-room-size c =
    let p = c.requires in
    let w = stands_err _ _ _ _ _ _ _ c.find.ensures c.in-Err.is in
    rw c.refuse-then-room-size.ensures (ins_long _ _ _ _ _ _ p.0 _ p.1 _ p.2 _ _ w refl _ c.most_lines.ensures c.if-most_lines-count.false _ c.meets-met.ensures c.if-not-met.false _ _ c.entry_length.ensures.0 c.width.ensures.0 c.if-room-size.true)

pub returns : goal.returns
returns c =
    let p = c.requires in
    let w = stands_err _ _ _ _ _ _ _ c.find.ensures c.in-Err.is in
    ins_taken _ _ _ _ _ _ p.0 _ p.1 _ p.2 _ _ w refl _ c.most_lines.ensures c.if-most_lines-count.false _ c.meets-met.ensures c.if-not-met.false _ _ c.entry_length.ensures.0 c.width.ensures.0 c.if-room-size.false
