-- `words::runs::unlike_ascii` meets its contract.
use mathlib.Core.Path.{refl}
use native.Mathlib.Omega.{arith}
use lib.Bits.{bit_and, and_le_r, xor_lt}
use Rattle.words.specs.Words.{rep, ascii_marks}
use Rattle.words.proofs.runs.unlike_ascii.Goals as goal

pub overflow_add-result : goal.overflow_add-result
overflow_add-result c = let y = bit_and c.args.w 0x7F7F7F7F7F7F7F7F in omega (arith, xor_lt 63 y 0x0202020202020202 (omega (arith, and_le_r c.args.w 0x7F7F7F7F7F7F7F7F)) (omega arith))

pub overflow_add-result-2 : goal.overflow_add-result-2
overflow_add-result-2 c = omega (arith, and_le_r c.args.w 0x7F7F7F7F7F7F7F7F)

pub returns : goal.returns
unfolding ascii_marks rep
returns c = refl
