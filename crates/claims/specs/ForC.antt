-- What is promised of the functions for C: what stands in the arrays and buffers that were lent is an answer of which the same is claimed.
use Rattle.std.specs.Prelude.{◌≡◌, refl, List, ℕ}
use Rattle.meaning.specs.Table.{scottish}
use Rattle.meaning.specs.Answers.{number_list}
use Rattle.meaning.specs.Load.{check_file, check_holding, load_file}
use Rattle.meaning.specs.Enquiries.{Found, find, in_force, field_of}
use Rattle.laws.specs.WhyField.{FieldAnswers, field_answers}
use Rattle.laws.specs.WhyFind.{FindAnswers}
use Rattle.laws.proofs.WhyFind.{find_answers}
use Rattle.laws.specs.WhyForce.{ForceAnswers}
use Rattle.laws.proofs.WhyForce.{force_answers}
use Rattle.laws.specs.Scottish.{scottish_regular}
use Rattle.answers.specs.Meant.{answer_of, verdict_of, answer_list, verdict_list, three_list}
use Rattle.answers.specs.declared.numbers.Answer.{Answer}
use Rattle.answers.specs.declared.numbers.Verdict.{Verdict}
use Rattle.muiwash.specs.Numbers.{part_list, sided_list, Loads}
use Rattle.claims.specs.AsBefore.{FindInCAsBefore, find_in_c_before, ForceInCAsBefore, force_in_c_before}
use Rattle.claims.specs.CheckClaims.{FileClaims, file_claims, HoldingClaims, holding_claims}
use Rattle.claims.specs.LoadClaims.{LoadClaims, load_claims}

-- ---- the checks

-- the numbers of an answer, of which check_file's claims hold
pub record FileInC (file answer : List ℕ) : Type 0 where
  pub outcome : answer ≡ number_list (check_file scottish file)
  pub told : Answer
  pub numbers : answer ≡ answer_list told
  pub claims : FileClaims file told

-- every outcome is so
pub file_in_c : (file answer : List ℕ) → answer ≡ number_list (check_file scottish file) → FileInC file answer
file_in_c file answer o = record { outcome = o; told = answer_of (check_file scottish file); numbers = o; claims = file_claims file _ refl }

-- three numbers, of which check_holding's claims hold
pub record HoldingInC (old answer : List ℕ) : Type 0 where
  pub outcome : answer ≡ three_list (check_holding scottish old)
  pub told : Verdict
  pub numbers : answer ≡ verdict_list told
  pub claims : HoldingClaims old told

-- every outcome is so
pub holding_in_c : (old answer : List ℕ) → answer ≡ three_list (check_holding scottish old) → HoldingInC old answer
holding_in_c old answer o = record { outcome = o; told = verdict_of (check_holding scottish old); numbers = o; claims = holding_claims old _ refl }

-- ---- load

-- the numbers of an answer and two buffers, of which load's claims hold
pub record LoadInC (old file : List ℕ) (room undo_room : ℕ) (out undo answer : List ℕ) : Type 0 where
  pub outcome : Loads old file room undo_room out undo answer
  pub told : Answer
  pub numbers : answer ≡ answer_list told
  pub claims : LoadClaims old file room undo_room told out undo

-- every outcome is so
pub load_in_c : (old file : List ℕ) (room undo_room : ℕ) (out undo answer : List ℕ) → Loads old file room undo_room out undo answer → LoadInC old file room undo_room out undo answer
load_in_c old file room undo_room out undo answer o = record {
  outcome = o;
  told = answer_of (load_file scottish old file room undo_room).answer;
  numbers = o.0;
  claims = load_claims old file room undo_room _ out undo (refl, o.1, o.2);
}

-- ---- the enquiries: the numbers, and where the part stands

-- five numbers of what find finds
pub record FindInC (old : List ℕ) (kind n : ℕ) (answer : List ℕ) : Type 0 where
  pub outcome : answer ≡ part_list (find scottish old kind n)
  pub found : Found
  pub numbers : answer ≡ part_list found
  pub why : FindAnswers scottish old kind n found
  -- paper 02, request 02: of ASCII alone, the answer is what it was before, with bytes counted
  pub as_before : FindInCAsBefore old kind n answer

-- every outcome is so
pub find_in_c : (old : List ℕ) (kind n : ℕ) (answer : List ℕ) → answer ≡ part_list (find scottish old kind n) → FindInC old kind n answer
find_in_c old kind n answer o = record {
  outcome = o;
  found = find scottish old kind n;
  numbers = o;
  why = find_answers scottish scottish_regular old kind n;
  as_before = find_in_c_before old kind n answer o;
}

-- six numbers of the record in force, with the side on which its line stands
pub record ForceInC (old file : List ℕ) (kind n : ℕ) (answer : List ℕ) : Type 0 where
  pub outcome : answer ≡ sided_list (in_force scottish old file kind n)
  pub found : Found
  pub numbers : answer ≡ sided_list found
  pub why : ForceAnswers scottish old file kind n found
  -- paper 02, request 02: of ASCII alone, the answer is what it was before, with bytes counted
  pub as_before : ForceInCAsBefore old file kind n answer

-- every outcome is so
pub force_in_c : (old file : List ℕ) (kind n : ℕ) (answer : List ℕ) → answer ≡ sided_list (in_force scottish old file kind n) → ForceInC old file kind n answer
force_in_c old file kind n answer o = record {
  outcome = o;
  found = in_force scottish old file kind n;
  numbers = o;
  why = force_answers scottish scottish_regular old file kind n;
  as_before = force_in_c_before old file kind n answer o;
}

-- five numbers of one field of a line
pub record FieldInC (bytes : List ℕ) (l f : ℕ) (answer : List ℕ) : Type 0 where
  pub outcome : answer ≡ part_list (field_of bytes l f)
  pub found : Found
  pub numbers : answer ≡ part_list found
  pub why : FieldAnswers bytes l f found

-- every outcome is so
pub field_in_c : (bytes : List ℕ) (l f : ℕ) (answer : List ℕ) → answer ≡ part_list (field_of bytes l f) → FieldInC bytes l f answer
field_in_c bytes l f answer o = record { outcome = o; found = field_of bytes l f; numbers = o; why = field_answers bytes l f }
