-- `words::word::marked` meets its contract.
use mathlib.Core.Path.{refl}
use native.Mathlib.Omega.{arith}
use lib.Bits.{bit_xor, and_le_r}
use Rattle.words.specs.Words.{rep, marks}
use Rattle.words.proofs.word.marked.Goals as goal

pub overflow_add-result : goal.overflow_add-result
overflow_add-result c = omega (arith, and_le_r (bit_xor c.args.w c.args.like) 0x7F7F7F7F7F7F7F7F)

pub returns : goal.returns
unfolding marks rep
returns c = refl
