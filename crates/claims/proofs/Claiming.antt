-- What the callers' proofs go by: every outcome of an operation is as is claimed.
use mathlib.Core.Path.{◌≡◌, ap, ◌∙◌}
use mathlib.Core.List.{List}
use Prim.Native.Nat.{ℕ, ◌-◌}
use native.Mathlib.Omega.{arith}
use borrow.Author.Rules.{rules}
use lib.ListN.{take, drop}
use Rattle.std.specs.Prelude.{Result}
use Rattle.meaning.specs.Table.{scottish}
use Rattle.meaning.specs.Load.{check_file, check_holding}
use Rattle.answers.specs.declared.refusal.Refusal.{Refusal}
use Rattle.answers.specs.declared.numbers.Answer.{Answer}
use Rattle.answers.specs.declared.numbers.Counts.{Counts}
use Rattle.answers.specs.declared.numbers.Verdict.{Verdict}
use Rattle.answers.specs.Meant.{said, answer_of, answer_said, three_said, verdict_of, verdict_said}
use Rattle.loader.specs.Outcome.{Outcome}
use Rattle.printed.specs.Printed.{bare}
use Rattle.claims.specs.CheckClaims.{FileClaims, file_claims, HoldingClaims, holding_claims}
use Rattle.claims.specs.LoadClaims.{load_claims}
use Rattle.claims.specs.BackClaims.{back_claims}
use Rattle.claims.specs.PartClaims.{find_claims, force_claims, field_claims}
use Rattle.claims.specs.PrintClaims.{print_claims}
use Rattle.claims.specs.ForC.{file_in_c, holding_in_c, load_in_c, find_in_c, force_in_c, field_in_c}

part_bare : (s : List ℕ) (n : ℕ) → take n s ≡ bare s → take (n - 0) (drop 0 s) ≡ bare s
part_bare s n e = let z : n - 0 ≡ n = omega arith in rw z e

-- what stands before the zeros is handed in as a part that starts where the buffer does
pub handed_in : (left undone out again : List ℕ) (n m room undo_room : ℕ) (r : Answer) → take n left ≡ bare left → take m undone ≡ bare undone
    → Outcome (take (n - 0) (drop 0 left)) (take (m - 0) (drop 0 undone)) room undo_room r out again → Outcome (bare left) (bare undone) room undo_room r out again
handed_in left undone out again n m room undo_room r p q o = rw (part_bare left n p, part_bare undone m q) at o

-- the numbers of what is answered are claimed
pub file_told : (file : List ℕ) (r : Result Counts Refusal) (a : Answer) → said r ≡ check_file scottish file → a ≡ answer_said r → FileClaims file a
file_told file r a w e = file_claims file a (e ∙ ap answer_of w)

pub holding_told : (old : List ℕ) (r : Result (Unit {0}) Refusal) (v : Verdict) → three_said r ≡ check_holding scottish old → v ≡ verdict_said r → HoldingClaims old v
holding_told old r v w e = holding_claims old v (e ∙ ap verdict_of w)

pub load_told : (old file : List ℕ) (room undo_room : ℕ) (r : Result Counts Refusal) (a : Answer) (out undo : List ℕ) → Outcome old file room undo_room (answer_said r) out undo → a ≡ answer_said r
    → Outcome old file room undo_room a out undo
load_told old file room undo_room r a out undo o e = rw e o

pub ruleset claiming = (
  rules,
  file_told,
  holding_told,
  load_told,
  load_claims,
  handed_in,
  back_claims,
  find_claims,
  force_claims,
  field_claims,
  print_claims,
  file_in_c,
  holding_in_c,
  load_in_c,
  find_in_c,
  force_in_c,
  field_in_c,
)
