-- `loader::take` meets its contract.
use borrow.Author.Rules.{rules}
use mathlib.Core.Path.{refl, sym, ap, ◌∙◌}
use Rattle.theory.specs.Answer.{refused}
use Rattle.loader.proofs.LoadLaws.{load_stopped, load_long, load_done}
use Rattle.loader.proofs.take.Goals as goal

pub returns-in_err-trial : goal.returns-in_err-trial
returns-in_err-trial c = load_stopped _ _ _ _ _ (rw c.in_err-trial.was at c.try_file.ensures) _ c.from_residual.ensures.1 _ _ refl refl

pub returns-then-not-fill_undo : goal.returns-then-not-fill_undo
returns-then-not-fill_undo c =
    let w = rw c.in_ok-trial.was at c.try_file.ensures in
    (load_long _ _ _ _ _ _ _ w _ _ c.fill_undo.ensures.0 c.if-not-fill_undo.true ∙ ap refused (sym c.alone.ensures), search rules, search rules)

pub returns : goal.returns
returns c =
    let w = rw c.in_ok-trial.was at c.try_file.ensures in
    load_done _ _ _ _ _ _ _ w _ _ c.fill_undo.ensures.0 c.if-not-fill_undo.false _ _ c.fill_holding.ensures (c.fill_undo.ensures.1 c.if-not-fill_undo.false)
