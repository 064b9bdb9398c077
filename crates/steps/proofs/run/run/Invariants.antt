-- What lasts from turn to turn of the loop of `steps::run::run`, and what each turn makes smaller.
use Rattle.steps.proofs.RunLaws.{Going}
use lib.ListN.{length}
use Prim.Native.Nat.{◌-◌}
use mathlib.Core.Path.{◌≡◌}
use Rattle.steps.proofs.run.run.Given as goal

abbrev pub invariant-loop-kind : goal.invariant-loop-kind
invariant-loop-kind l = Going l.holding l.file l.initial.places l.room l.initial.state l.places l.tags l.counts l.steps l.before l.state l.at l.made × (length l.places ≡ length l.initial.places) × (length l.tags ≡ length l.initial.tags) × (length l.counts ≡ length l.initial.counts) × (length l.steps ≡ length l.initial.steps) × (length l.before ≡ length l.initial.before)

abbrev pub decreases-loop-kind : goal.decreases-loop-kind
decreases-loop-kind l = length l.file - l.at
