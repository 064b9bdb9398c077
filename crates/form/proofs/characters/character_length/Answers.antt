-- `form::characters::character_length` meets its contract.
use mathlib.Core.Path.{◌∙◌}
use Rattle.form.proofs.CharacterLaws.{character, length_empty, length_ascii}
use Rattle.form.proofs.characters.character_length.Goals as goal
use Rattle.form.proofs.characters.character_length.Goals.{else-n-gt0-via-then-n-gt0+then-n-t+then-may_follow+else-are_tails, else-n-gt0-via-then-n-gt0+then-n-t+else-may_follow, else-n-gt0-via-then-n-gt0+else-n-t, else-n-gt0-via-else-n-gt0}

pub returns-in_err-first : goal.returns-in_err-first
returns-in_err-first c = c.from_residual.ensures ∙ length_empty c.args.t.now c.in_err-first.ensures.item.3

pub returns-then-first-lt128 : goal.returns-then-first-lt128
returns-then-first-lt128 c =
    let i = c.in_ok-first.ensures.item.3 in
    (rw c.is_text_byte.ensures at c.then_some.ensures) ∙ length_ascii c.args.t.now i.0 _ (i.1 0) c.if-first-lt128.true

pub returns-then-are_tails : goal.returns-then-are_tails
returns-then-are_tails c = search character

pub returns-else-n-gt0 : goal.returns-else-n-gt0
returns-else-n-gt0 c = elim c.else-n-gt0.branch [ else-n-gt0-via-then-n-gt0+then-n-t+then-may_follow+else-are_tails w ↦ search character | else-n-gt0-via-then-n-gt0+then-n-t+else-may_follow w ↦ search character | else-n-gt0-via-then-n-gt0+else-n-t w ↦ search character | else-n-gt0-via-else-n-gt0 w ↦ search character ]
