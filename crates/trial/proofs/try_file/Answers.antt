-- `trial::try_file` meets its contract.
use borrow.Author.Rules.{rules}
use mathlib.Core.Path.{sym, ap, ◌∙◌}
use native.Mathlib.Omega.{arith}
use Rattle.theory.specs.Answer.{refused}
use Rattle.trial.proofs.TrialLaws.{trial_unheld, trial_held, tries_err, trial_faulty, is_file_lem, trial_short, trial_ready, trial_stopped, trial_done}
use Rattle.trial.proofs.try_file.Goals as goal

pub returns-in_err-count : goal.returns-in_err-count
returns-in_err-count c = tries_err _ _ _ _ _ _ _ (trial_unheld _ _ _ _ _ _ _ c.read_holding.ensures _ c.map_err.ensures.cases _ c.in_err-count.was) _ c.from_residual.ensures.1

pub returns-in_err-counts : goal.returns-in_err-counts
returns-in_err-counts c =
    let w = trial_held _ _ _ _ _ c.read_holding.ensures _ c.map_err.ensures.cases _ c.in_ok-count.was in
    tries_err _ _ _ _ _ _ _ (trial_faulty _ c.args.file.now _ _ _ _ _ w _ (rw c.in_err-counts.was at c.check_file.ensures)) _ c.from_residual-in_err-counts.ensures.1

pub returns-then-room-size : goal.returns-then-room-size
returns-then-room-size c =
    let w = trial_held _ _ _ _ _ c.read_holding.ensures _ c.map_err.ensures.cases _ c.in_ok-count.was in
    trial_short _ _ c.args.room _ _ _ _ w _ (rw c.in_ok-counts.was at c.check_file.ensures) c.if-room-size.true ∙ ap refused (sym c.alone.ensures)

pub run-requires : goal.run-requires
run-requires c =
    let w = trial_held _ _ _ _ _ c.read_holding.ensures _ c.map_err.ensures.cases _ c.in_ok-count.was in
    let f = rw c.in_ok-counts.was at c.check_file.ensures in (
      trial_ready _ _ _ _ _ _ _ w _ f c.if-room-size.false (search rules) (search rules) (search rules) c.requires.3 (omega (arith, c.well_formed.0.1)) (omega (arith, c.well_formed.1.0.1)),
      is_file_lem _ _ c.args.room _ _ _ _ w _ f,
      c.requires.1,
      c.requires.2,
    )

pub returns-in_err-ran : goal.returns-in_err-ran
returns-in_err-ran c =
    let w = trial_held _ _ _ _ _ c.read_holding.ensures _ c.map_err.ensures.cases _ c.in_ok-count.was in
    let f = rw c.in_ok-counts.was at c.check_file.ensures in
    tries_err _ _ _ _ _ _ _ (trial_stopped _ _ _ _ _ _ _ w _ f c.if-room-size.false _ _ _ _ _ _ (rw c.in_err-ran.was at c.run.ensures)) _ c.from_residual-in_err-ran.ensures.1

pub returns : goal.returns
returns c =
    let w = trial_held _ _ _ _ _ c.read_holding.ensures _ c.map_err.ensures.cases _ c.in_ok-count.was in
    let f = rw c.in_ok-counts.was at c.check_file.ensures in
    trial_done _ _ _ _ _ _ _ w _ f c.if-room-size.false _ _ _ _ _ _ (rw c.in_ok-ran.was at c.run.ensures)
