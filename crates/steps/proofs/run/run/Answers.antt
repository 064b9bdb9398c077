-- `steps::run::run` meets its contract.
use mathlib.Core.Path.{◌∙◌}
use native.Mathlib.Omega.{arith}
use borrow.Author.Rules.{rules}
use Rattle.steps.proofs.RunLaws.{in_body, no_body, body_inside, go_start, go_done, go_carries, go_steps, go_before, go_stop, go_turn}
use Rattle.steps.proofs.run.run.Goals as goal

pub loop-kind-init : goal.loop-kind-init
loop-kind-init c =
    (go_start _ _ _ _ _ _ _ _ _ _ c.requires.0 c.requires.1 c.requires.2 c.requires.3 c.line_end-at.ensures.0 c.line_end-at.ensures.2, search rules, search rules, search rules, search rules, search rules)

pub line_end-end-requires : goal.line_end-end-requires
line_end-end-requires c =
    let m = body_inside _ _ _ c.body_kind.ensures _ c.in-Some.is in
    omega (arith, m)

pub step-requires : goal.step-requires
step-requires c =
    let i = c.loop-kind.invariant in
    let u = in_body _ _ _ c.body_kind.ensures _ c.in-Some.is in
    let k = c.known in
    (i.0.ready, go_carries _ _ _ _ _ _ _ _ _ _ _ _ _ i.0 _ u _ c.line_end-end.ensures.0 k.result k.ensures.0 k.ensures.1)

pub returns-in-Err : goal.returns-in-Err
returns-in-Err c =
    let i = c.loop-kind.invariant in
    let u = in_body _ _ _ c.body_kind.ensures _ c.in-Some.is in
    go_stop _ _ _ _ _ _ _ _ _ _ _ _ _ i.0 _ u _ _ _ _ c.step.ensures _ _ c.in-Err.is c.of_line.ensures

pub bounds-steps-made : goal.bounds-steps-made
bounds-steps-made c =
    let i = c.loop-kind.invariant in
    let u = in_body _ _ _ c.body_kind.ensures _ c.in-Some.is in
    go_steps _ _ _ _ _ _ _ _ _ _ _ _ _ i.0 _ u

pub bounds-before-made : goal.bounds-before-made
bounds-before-made c =
    let i = c.loop-kind.invariant in
    let u = in_body _ _ _ c.body_kind.ensures _ c.in-Some.is in
    go_before _ _ _ _ _ _ _ _ _ _ _ _ _ i.0 _ u

pub loop-kind-smaller : goal.loop-kind-smaller
loop-kind-smaller c =
    let m = body_inside _ _ _ c.body_kind.ensures _ c.in-Some.is in
    search (rules, m)

pub loop-kind-preserved : goal.loop-kind-preserved
loop-kind-preserved c =
    let i = c.loop-kind.invariant in
    let u = in_body _ _ _ c.body_kind.ensures _ c.in-Some.is in
    (go_turn _ _ _ _ _ _ _ _ _ _ _ _ _ i.0 _ u _ _ _ _ c.step.ensures c.in-Ok.stepped _ c.in-Ok.is c.line_end-end.ensures.0 c.line_end-end.ensures.2, c.places-1.given ∙ i.1, c.tags-1.given ∙ i.2, c.counts-1.given ∙ i.3, search rules, search rules)

pub returns : goal.returns
returns c =
    let i = c.loop-kind.invariant in
    go_done _ _ _ _ _ _ _ _ _ _ _ _ _ i.0 (no_body _ _ _ c.body_kind.ensures c.in_default.is)
