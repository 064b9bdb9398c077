-- What lasts from turn to turn of the loop of `words::runs::past_digits`.
use Prim.Native.Nat.{◌+◌, ◌*◌}
use lib.Dec.{T}
use Rattle.base.specs.Lists.{all}
use Rattle.meaning.specs.Forms.{is_digit}
use Rattle.words.specs.Words.{upto}
use Rattle.words.proofs.runs.past_digits.Given as goal

abbrev pub invariant-loop-k : goal.invariant-loop-k
invariant-loop-k l = T (all is_digit (upto l.s l.at (l.at + 8 * l.k)))
