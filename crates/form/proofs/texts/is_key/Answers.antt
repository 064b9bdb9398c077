-- `form::texts::is_key` meets its contract.
use native.Mathlib.Omega.{arith}
use Rattle.base.specs.Lists.{part}
use Rattle.meaning.specs.Forms.{is_digits}
use Rattle.number.proofs.ByteLaws.{one}
use Rattle.form.proofs.KeyLaws.{key_tests, key_tests_lem}
use Rattle.form.proofs.texts.is_key.Goals as goal

pub returns-then-f-letter : goal.returns-then-f-letter
unfolding key_tests is_digits part
returns-then-f-letter c = key_tests_lem c.args.letter c.args.f.now _ (grind (arith, one c.args.f.now 5 c.args.letter))

pub returns-else-f-letter : goal.returns-else-f-letter
unfolding key_tests is_digits part
returns-else-f-letter c = key_tests_lem c.args.letter c.args.f.now _ (grind (arith, one c.args.f.now 5 c.args.letter))
