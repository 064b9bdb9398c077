-- What lasts from turn to turn of the loop of `words::runs::past_ascii`, and what each turn makes smaller.
use Prim.Native.Nat.{◌-◌, ◌≤◌}
use lib.Dec.{T}
use lib.ListN.{length}
use Rattle.base.specs.Lists.{all}
use Rattle.form.specs.Characters.{is_ascii_text}
use Rattle.words.specs.Words.{upto}
use Rattle.words.proofs.runs.past_ascii.Given as goal

abbrev pub invariant-loop-i : goal.invariant-loop-i
invariant-loop-i l = (l.at ≤ l.i) × (l.i ≤ length l.s) × T (all is_ascii_text (upto l.s l.at l.i))

abbrev pub decreases-loop-i : goal.decreases-loop-i
decreases-loop-i l = length l.s - l.i
