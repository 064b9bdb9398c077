-- What lasts from turn to turn of the loop of `in_force::naming::last_naming`, and what each turn makes smaller.
use Prim.Native.Nat.{◌+◌, ◌-◌, ◌≤◌}
use mathlib.Core.Path.{◌≡◌}
use lib.ListN.{length, drop}
use Rattle.meaning.specs.Lines.{lines_of}
use Rattle.keys.specs.Numbers.{key_list}
use Rattle.in_force.specs.Naming.{last_named}
use Rattle.in_force.specs.declared.naming.Naming.TheVariants.{Unnamed}
use Rattle.in_force.proofs.naming.last_naming.Given as goal

abbrev pub invariant-loop-at : goal.invariant-loop-at
invariant-loop-at l = (last_named (key_list l.key) l.line (lines_of (drop l.at l.file)) l.last ≡ last_named (key_list l.key) 1 (lines_of l.file) Unnamed) × (l.at ≤ length l.file + 2) × (l.line ≤ l.at + 1)

abbrev pub decreases-loop-at : goal.decreases-loop-at
decreases-loop-at l = length l.file + 2 - l.at
