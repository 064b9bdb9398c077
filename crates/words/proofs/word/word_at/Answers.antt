-- `words::word::word_at` meets its contract.
use native.Mathlib.Omega.{arith}
use Rattle.words.proofs.LaneLaws.{word_eight}
use Rattle.words.proofs.word.word_at.Goals as goal

pub returns : goal.returns
returns c = word_eight c.args.s.now c.args.at _ c.requires (λ k. omega (arith, c.type_inv.s k)) c.from_le_bytes.ensures
