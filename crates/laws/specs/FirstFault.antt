-- Paper 01, 'Order': in the file check, nothing after the first faulty line changes the answer; and past sound body lines the check goes on as if from there.
use Rattle.std.specs.Prelude.{◌≡◌}
use Prim.Native.Nat.{ℕ, ◌+◌, ◌≤◌, ◌<◌}
use Rattle.theory.specs.Answer.{fault, file}
use Rattle.meaning.specs.File.{Sheet}
use Rattle.meaning.specs.Answers.{Read}
use Rattle.meaning.specs.Codes.{out_of_place}

-- ---- where a fault stands

-- a fault stands at one of the lines; 3 alone may stand at the line after the last
abbrev pub FaultAt : ℕ → ℕ → Read Sheet → Type 0
FaultAt i m (fault r) = (i ≤ r.line) × (r.line ≤ i + m) × (r.line ≡ i + m → r.code ≡ out_of_place)
FaultAt i m (file s) = Unit {0}

-- ---- faults that are the same

-- one read's fault before line i is the other's too
abbrev pub SameFault : ℕ → Read Sheet → Read Sheet → Type 0
SameFault i (fault r) s = r.line < i → s ≡ fault r
SameFault i (file x) s = Unit {0}
