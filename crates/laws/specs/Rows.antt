-- Paper 01, 'Numbers given back': the codes that each operation can give, with the line and the field that go with each; and that it gives no others.
-- Paper 02, request 01: a place stands beside 5 alone.
use Rattle.std.specs.Prelude.{◌≡◌, Bool, false, ◌&&◌, ◌||◌, eqb}
use mathlib.Core.List.{List, [], ◌∷◌, ◌++◌}
use Prim.Native.Nat.{ℕ, suc, ◌-◌}
use Rattle.std.proofs.Math.Dec.{T, leb}
use Rattle.std.proofs.Math.ListN.{length}
use Rattle.base.specs.Lists.{pick}
use Rattle.meaning.specs.Lines.{lines_of}
use Rattle.meaning.specs.Format.{Format}
use Rattle.meaning.specs.Enquiries.{Found}
use Rattle.meaning.specs.Codes.{holding_too_long, all_done, ending_wrong, identifier_unknown, out_of_place, field_count_wrong, field_malformed, end_before_start, not_running_number, record_count_wrong, too_many_body_lines, key_absent, holding_unsound, kind_not_asked, undo_too_long, no_such_part}
use Rattle.laws.specs.FileRefusals.{end_number}
use Rattle.laws.specs.LoadRefusals.{step_codes}

-- ---- rows

-- a code, and the lines and fields that go with it
pub record Row : Type 0 where
  pub code : ℕ
  pub line : ℕ → Bool
  pub field : ℕ → Bool

-- the three numbers are as the row has them
abbrev pub fitting : Row → ℕ → ℕ → ℕ → Bool
fitting r c l f = eqb c r.code && (r.line l && r.field f)

-- they stand in one of the rows
unfoldable pub given : List Row → ℕ → ℕ → ℕ → Bool
given [] c l f = false
given (r ∷ rs) c l f = fitting r c l f || given rs c l f

-- 0 means none
abbrev pub nought : ℕ → Bool
nought n = eqb n 0

-- a line from a to b
abbrev pub within : ℕ → ℕ → ℕ → Bool
within a b l = leb a l && leb l b

-- a row as a line of the table
abbrev pub row : ℕ → (ℕ → Bool) → (ℕ → Bool) → Row
row c line field = record { code = c; line = line; field = field }

-- codes with no field, each at one of the same lines
abbrev pub rows : (ℕ → Bool) → List ℕ → List Row
rows line [] = []
rows line (c ∷ cs) = row c line nought ∷ rows line cs

-- ---- what stands in rows

-- the three numbers stand in these rows, and a refusal hands back an empty part
pub record FoundIn (rs : List Row) (f : Found) : Type 0 where
  pub numbers : T (given rs f.answer.code f.answer.line f.answer.field)
  pub empty : (f.answer.code ≡ 0 → ⊥) → f.size ≡ 0

-- ---- a place

-- 5 has a place, and no other code has
unfoldable pub pointed : ℕ → ℕ → Bool
pointed c p = pick (eqb c field_malformed) (leb 1 p) (eqb p 0)

-- ---- one field of a line

-- 0 or 19
unfoldable pub field_rows : List Row
field_rows = rows nought (all_done ∷ no_such_part ∷ [])

-- ---- the table, by what is asked

-- a holding of n lines
unfoldable pub held_rows : ℕ → List Row
held_rows n = rows (within 1 n) (holding_unsound ∷ [])

-- check a holding: 0, or 14 at its line
unfoldable pub holding_rows : List ℕ → List Row
holding_rows old = rows nought (all_done ∷ []) ++ held_rows (length (lines_of old))

-- the steps: body lines stand from line 2 to the second before the last
unfoldable pub step_rows : List ℕ → List Row
step_rows b = rows (within 2 (length (lines_of b) - 2)) step_codes

-- find: 0, 15, 11, or 14 at its line
unfoldable pub find_rows : List ℕ → List Row
find_rows old = rows nought (all_done ∷ kind_not_asked ∷ key_absent ∷ []) ++ held_rows (length (lines_of old))

module _ (F : Format) where
  open F use {fields, enquiries}

  -- a file of n lines: a file that ends before its trailer gets 3 at the line after its last
  unfoldable pub file_rows : ℕ → List Row
  file_rows n =
      row ending_wrong (within 1 n) nought
      ∷ row identifier_unknown (within 1 n) (λ f. eqb f 1)
      ∷ row out_of_place (within 1 (suc n)) nought
      ∷ row field_count_wrong (within 1 n) nought
      ∷ row field_malformed (within 1 n) (leb 1)
      ∷ row end_before_start (within 1 n) (end_number F)
      ∷ row not_running_number (within 1 n) (λ f. eqb f 3)
      ∷ row record_count_wrong (within 1 n) (λ f. eqb f 3)
      ∷ row too_many_body_lines (within 1 n) nought
      ∷ []

  -- check a file: 0, or 1 to 9
  unfoldable pub check_rows : List ℕ → List Row
  check_rows b = rows nought (all_done ∷ []) ++ file_rows (length (lines_of b))

  -- what refuses a file over a holding, but for the length of its undo: 14, the file check, 13 for the start, the steps
  unfoldable pub tried_rows : List ℕ → List ℕ → List Row
  tried_rows old b = held_rows (length (lines_of old)) ++ (file_rows (length (lines_of b)) ++ (rows nought (holding_too_long ∷ []) ++ step_rows b))

  -- load a file: 0, or 17, or what refuses the file
  unfoldable pub load_rows : List ℕ → List ℕ → List Row
  load_rows old b = rows nought (all_done ∷ undo_too_long ∷ []) ++ tried_rows old b

  -- the record in force: what find gives, or the file check
  unfoldable pub force_rows : List ℕ → List ℕ → List Row
  force_rows old b = find_rows old ++ file_rows (length (lines_of b))
